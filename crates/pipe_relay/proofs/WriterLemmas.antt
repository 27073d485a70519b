-- A pipe at its writer's side: what its peer writes becomes one frame a piece until the reader shuts, and the end stands behind all pieces.
use Rattle.std.proofs.Common.{◌≡◌, Bool, true, false, ◌||◌, not, cond, ℤ, ℕ, List, [], ◌∷◌, ◌++◌, Option, Some, None, ◌⊎◌, ⊎_elim, inl, inr, refl, sym, ◌∙◌, ap, subst}
use Rattle.std.proofs.lemmas.Cmp.{int_eq_equiv}
use Rattle.std.proofs.lemmas.List.Elements.{filter_map-append}
use Rattle.std.proofs.lemmas.List.Folds.{list_any-append}
use Rattle.std.specs.Bool.{if◌then◌else◌}
use Rattle.std.specs.List.{list_any, filter_map, cons_option}
use Rattle.std.specs.Option.{option_to_list}
use Rattle.std.specs.Ordering.{int_eq}
use Rattle.plain_lists.specs.Fronts.{IsFront}
use Rattle.plain_lists.proofs.FrontLemmas.{IsFront_nil}
use Rattle.wp_outside.specs.declared.pipe_items.PipeItem.{PipeItem}
use Rattle.wp_outside.specs.declared.pipe_items.PipeItem.TheVariants as items
use Rattle.transfer_frames.specs.declared.frame.Frame.{Frame}
use Rattle.transfer_frames.specs.declared.frame.Frame.TheVariants as frames
use Rattle.pipe_relay.specs.Pipes.{PipesState, Rids, has_rid, with_rid, is_no_end, frame_of_item, after_item, after_pipe_frame}
use Rattle.pipe_relay.specs.Rows.{PipeStep, OpensOwn, OpensOther, Puts, Hears, Happens, MayHappen, after_step, put_at, put_in, heard_at, heard_in, made_at, made_in, piece_of, pieces_in, transfer_of, transfers_in, tells_shut_of}
use Rattle.pipe_relay.proofs.RidLemmas.{same_rid, other_rid, neither, has-put, has-kept, hasnt-put, split-cons, split-nil, IsFront-behind_same}

-- what a frame of the other side leaves alone
closed-heard : (pipes : PipesState) (frame : Frame) → (after_pipe_frame pipes frame).closed ≡ pipes.closed
closed-heard pipes (frames.PipeShutW rid) = refl
closed-heard pipes (frames.PipeShutR rid) = refl
closed-heard pipes frame = refl

-- an end that isn't refused isn't closed
open_end : (given closed : Rids) (rid : ℤ) → is_no_end given closed rid ≡ false → has_rid rid closed ≡ false
open_end given closed rid passes = by (has_rid rid given) (has_rid rid closed) passes
  where
    by : (a b : Bool) → (not a || b) ≡ false → b ≡ false
    by true b is = is
    by false b is = absurd (let never : ⊥ = cc in never)

module _ (rid : ℤ) where
  -- ---- a closed end

  -- nothing is written behind it
  pub closed-puts : (pipes : PipesState) (steps : List PipeStep) → has_rid rid pipes.closed ≡ true → Happens pipes steps
      → pieces_in rid (put_in steps) ≡ []
  closed-puts pipes [] closed may = refl
  closed-puts pipes (OpensOwn other ∷ steps) closed may = closed-puts (after_step pipes (OpensOwn other)) steps closed may.1
  closed-puts pipes (OpensOther other ∷ steps) closed may = closed-puts (after_step pipes (OpensOther other)) steps closed may.1
  closed-puts pipes (Hears frame ∷ steps) closed may =
      closed-puts (after_pipe_frame pipes frame) steps (ap (has_rid rid) (closed-heard pipes frame) ∙ closed) may.1
  closed-puts pipes (Puts (items.Shut other) ∷ steps) closed may =
      closed-puts (after_item pipes (items.Shut other)) steps closed may.1
  closed-puts pipes (Puts (items.End other) ∷ steps) closed may =
      closed-puts (after_item pipes (items.End other)) steps (has-kept pipes.closed other rid closed) may.1
  closed-puts pipes (Puts (items.Bytes other bytes) ∷ steps) closed may =
      let apart : int_eq rid other ≡ false = other_rid rid other pipes.closed closed (open_end pipes.other pipes.closed other may.0) in
      ap (λ (b : Bool). cons_option (if b then Some bytes else None) (pieces_in rid (put_in steps))) (int_eq_equiv.symm other rid ∙ apart)
      ∙ closed-puts pipes steps closed may.1

  -- ---- a pipe that its reader has shut

  shut-step : (pipes : PipesState) (step : PipeStep) → has_rid rid pipes.shut ≡ true → has_rid rid (after_step pipes step).shut ≡ true
  shut-step pipes (OpensOwn other) shut = shut
  shut-step pipes (OpensOther other) shut = shut
  shut-step pipes (Puts (items.Bytes other bytes)) shut = shut
  shut-step pipes (Puts (items.End other)) shut = shut
  shut-step pipes (Puts (items.Shut other)) shut = shut
  shut-step pipes (Hears (frames.PipeShutW other)) shut = shut
  shut-step pipes (Hears (frames.PipeShutR other)) shut = has-kept pipes.shut other rid shut
  shut-step pipes (Hears frame) shut = shut

  -- one step makes no PIPE_TRANSFER of it
  shut-makes : (pipes : PipesState) (step : PipeStep) → has_rid rid pipes.shut ≡ true → transfers_in rid (made_at pipes step) ≡ []
  shut-makes pipes (OpensOwn other) shut = refl
  shut-makes pipes (OpensOther other) shut = refl
  shut-makes pipes (Hears frame) shut = refl
  shut-makes pipes (Puts (items.Shut other)) shut = refl
  shut-makes pipes (Puts (items.End other)) shut = by (has_rid other pipes.shut)
    where
      by : (t : Bool) → transfers_in rid (option_to_list (if t then None else Some (frames.PipeShutW other))) ≡ []
      by true = refl
      by false = refl
  shut-makes pipes (Puts (items.Bytes other bytes)) shut = by (has_rid other pipes.shut) refl
    where
      by : (t : Bool) → has_rid other pipes.shut ≡ t
          → transfers_in rid (option_to_list (if t then None else Some (frames.PipeTransfer other bytes))) ≡ []
      by true is = refl
      by false is =
          ap (λ (b : Bool). cons_option (if b then Some bytes else None) [])
          (int_eq_equiv.symm other rid ∙ other_rid rid other pipes.shut shut is)

  pub shut-transfers : (pipes : PipesState) (steps : List PipeStep) → has_rid rid pipes.shut ≡ true → transfers_in rid (made_in pipes steps) ≡ []
  shut-transfers pipes [] shut = refl
  shut-transfers pipes (step ∷ steps) shut =
      filter_map-append (transfer_of rid) (made_at pipes step) (made_in (after_step pipes step) steps)
      ∙ ap (λ (l : List (List ℕ)). l ++ transfers_in rid (made_in (after_step pipes step) steps)) (shut-makes pipes step shut)
      ∙ shut-transfers (after_step pipes step) steps (shut-step pipes step shut)

  -- nor its end
  shut-ends : (pipes : PipesState) (steps : List PipeStep) → has_rid rid pipes.shut ≡ true
      → (front rest : List Frame) → made_in pipes steps ≡ front ++ frames.PipeShutW rid ∷ rest → ⊥
  shut-ends pipes [] shut front rest is = split-nil (frames.PipeShutW rid) front rest is
  shut-ends pipes (OpensOwn other ∷ steps) shut front rest is = shut-ends (after_step pipes (OpensOwn other)) steps shut front rest is
  shut-ends pipes (OpensOther other ∷ steps) shut front rest is = shut-ends (after_step pipes (OpensOther other)) steps shut front rest is
  shut-ends pipes (Hears frame ∷ steps) shut front rest is =
      shut-ends (after_pipe_frame pipes frame) steps (shut-step pipes (Hears frame) shut) front rest is
  shut-ends pipes (Puts (items.Shut other) ∷ steps) shut front rest is =
      ⊎_elim
      (λ here. let head = here.1 in cc)
      (λ more. shut-ends (after_item pipes (items.Shut other)) steps shut more.0 rest more.2)
      (split-cons (frames.PipeShutR other) (frames.PipeShutW rid) (made_in (after_item pipes (items.Shut other)) steps) front rest is)
  shut-ends pipes (Puts (items.Bytes other bytes) ∷ steps) shut front rest is =
      by (has_rid other pipes.shut) (λ f r e. shut-ends pipes steps shut f r e) is
    where
      by : (t : Bool) → ((f r : List Frame) → made_in pipes steps ≡ f ++ frames.PipeShutW rid ∷ r → ⊥)
          → option_to_list (if t then None else Some (frames.PipeTransfer other bytes)) ++ made_in pipes steps ≡ front ++ frames.PipeShutW rid ∷ rest → ⊥
      by true later e = later front rest e
      by false later e =
          ⊎_elim (λ here. let head = here.1 in cc) (λ more. later more.0 rest more.2)
          (split-cons (frames.PipeTransfer other bytes) (frames.PipeShutW rid) (made_in pipes steps) front rest e)
  shut-ends pipes (Puts (items.End other) ∷ steps) shut front rest is =
      by (has_rid other pipes.shut) refl (λ f r e. shut-ends (after_item pipes (items.End other)) steps shut f r e) is
    where
      next : PipesState
      next = after_item pipes (items.End other)

      by : (t : Bool) → has_rid other pipes.shut ≡ t → ((f r : List Frame) → made_in next steps ≡ f ++ frames.PipeShutW rid ∷ r → ⊥)
          → option_to_list (if t then None else Some (frames.PipeShutW other)) ++ made_in next steps ≡ front ++ frames.PipeShutW rid ∷ rest → ⊥
      by true has later e = later front rest e
      by false hasnt later e =
          ⊎_elim
          (λ here. let same : other ≡ rid = (let head = here.1 in cc) in
          let no : has_rid rid pipes.shut ≡ false = sym (ap (λ (r : ℤ). has_rid r pipes.shut) same) ∙ hasnt in cc)
          (λ more. later more.0 rest more.2)
          (split-cons (frames.PipeShutW other) (frames.PipeShutW rid) (made_in next steps) front rest e)

  -- ---- a pipe that its reader has not shut

  -- one step makes a PIPE_TRANSFER of each piece
  open-makes : (pipes : PipesState) (step : PipeStep) → has_rid rid pipes.shut ≡ false
      → transfers_in rid (made_at pipes step) ≡ pieces_in rid (put_at step)
  open-makes pipes (OpensOwn other) free = refl
  open-makes pipes (OpensOther other) free = refl
  open-makes pipes (Hears frame) free = refl
  open-makes pipes (Puts (items.Shut other)) free = refl
  open-makes pipes (Puts (items.End other)) free = by (has_rid other pipes.shut)
    where
      by : (t : Bool) → transfers_in rid (option_to_list (if t then None else Some (frames.PipeShutW other))) ≡ []
      by true = refl
      by false = refl
  open-makes pipes (Puts (items.Bytes other bytes)) free = by (has_rid other pipes.shut) refl
    where
      by : (t : Bool) → has_rid other pipes.shut ≡ t
          → transfers_in rid (option_to_list (if t then None else Some (frames.PipeTransfer other bytes)))
          ≡ pieces_in rid (items.Bytes other bytes ∷ [])
      by true is =
          sym (ap (λ (b : Bool). cons_option (if b then Some bytes else None) []) (other_rid other rid pipes.shut is free))
      by false is = refl

  -- the pieces of the frames are the first that were written
  pub first-written : (pipes : PipesState) (steps : List PipeStep) → IsFront (transfers_in rid (made_in pipes steps)) (pieces_in rid (put_in steps))
  first-written pipes [] = IsFront_nil []
  first-written pipes (step ∷ steps) = by (first-written (after_step pipes step) steps) (has_rid rid pipes.shut) refl
    where
      next : PipesState
      next = after_step pipes step

      by : IsFront (transfers_in rid (made_in next steps)) (pieces_in rid (put_in steps)) → (t : Bool) → has_rid rid pipes.shut ≡ t
          → IsFront (transfers_in rid (made_in pipes (step ∷ steps))) (pieces_in rid (put_in (step ∷ steps)))
      by later true is =
          subst (λ (l : List (List ℕ)). IsFront l (pieces_in rid (put_in (step ∷ steps)))) (sym (shut-transfers pipes (step ∷ steps) is))
          (IsFront_nil (pieces_in rid (put_in (step ∷ steps))))
      by later false is =
          let made : transfers_in rid (made_in pipes (step ∷ steps)) ≡ pieces_in rid (put_at step) ++ transfers_in rid (made_in next steps) =
          filter_map-append (transfer_of rid) (made_at pipes step) (made_in next steps)
          ∙ ap (λ (l : List (List ℕ)). l ++ transfers_in rid (made_in next steps)) (open-makes pipes step is)
          in
          let put : pieces_in rid (put_in (step ∷ steps)) ≡ pieces_in rid (put_at step) ++ pieces_in rid (put_in steps) =
          filter_map-append (piece_of rid) (put_at step) (put_in steps)
          in
          subst (λ (l : List (List ℕ)). IsFront l (pieces_in rid (put_in (step ∷ steps)))) (sym made) (
          subst (λ (l : List (List ℕ)). IsFront (pieces_in rid (put_at step) ++ transfers_in rid (made_in next steps)) l) (sym put)
          (IsFront-behind_same (pieces_in rid (put_at step)) _ _ later))

  -- a pipe of which no shut is heard stays so
  open-step : (pipes : PipesState) (step : PipeStep) → has_rid rid pipes.shut ≡ false
      → list_any (tells_shut_of rid) (heard_at step) ≡ false → has_rid rid (after_step pipes step).shut ≡ false
  open-step pipes (OpensOwn other) free silent = free
  open-step pipes (OpensOther other) free silent = free
  open-step pipes (Puts (items.Bytes other bytes)) free silent = free
  open-step pipes (Puts (items.End other)) free silent = free
  open-step pipes (Puts (items.Shut other)) free silent = free
  open-step pipes (Hears (frames.PipeShutW other)) free silent = free
  open-step pipes (Hears (frames.PipeShutR other)) free silent =
      hasnt-put pipes.shut other rid (either (int_eq other rid) silent) free
    where
      either : (b : Bool) → (b || false) ≡ false → b ≡ false
      either true is = is
      either false is = refl
  open-step pipes (Hears frame) free silent = free

  -- then the frames have all pieces that were written
  pub all-written : (pipes : PipesState) (steps : List PipeStep) → has_rid rid pipes.shut ≡ false
      → list_any (tells_shut_of rid) (heard_in steps) ≡ false
      → transfers_in rid (made_in pipes steps) ≡ pieces_in rid (put_in steps)
  all-written pipes [] free silent = refl
  all-written pipes (step ∷ steps) free silent =
      let parts : (list_any (tells_shut_of rid) (heard_at step) || list_any (tells_shut_of rid) (heard_in steps)) ≡ false =
      sym (list_any-append (tells_shut_of rid) (heard_at step) (heard_in steps)) ∙ silent
      in
      let both = neither (list_any (tells_shut_of rid) (heard_at step)) (list_any (tells_shut_of rid) (heard_in steps)) parts in
      filter_map-append (transfer_of rid) (made_at pipes step) (made_in (after_step pipes step) steps)
      ∙ ap (λ (l : List (List ℕ)). l ++ transfers_in rid (made_in (after_step pipes step) steps)) (open-makes pipes step free)
      ∙ ap (λ (l : List (List ℕ)). pieces_in rid (put_at step) ++ l)
      (all-written (after_step pipes step) steps (open-step pipes step free both.0) both.1)
      ∙ sym (filter_map-append (piece_of rid) (put_at step) (put_in steps))

  -- ---- the end

  -- before the frame of the end stand all pieces that were written
  pub written-before_end : (pipes : PipesState) (steps : List PipeStep) → Happens pipes steps
      → (front rest : List Frame) → made_in pipes steps ≡ front ++ frames.PipeShutW rid ∷ rest
      → transfers_in rid front ≡ pieces_in rid (put_in steps)
  written-before_end pipes [] may front rest is = absurd (split-nil (frames.PipeShutW rid) front rest is)
  written-before_end pipes (OpensOwn other ∷ steps) may front rest is =
      written-before_end (after_step pipes (OpensOwn other)) steps may.1 front rest is
  written-before_end pipes (OpensOther other ∷ steps) may front rest is =
      written-before_end (after_step pipes (OpensOther other)) steps may.1 front rest is
  written-before_end pipes (Hears frame ∷ steps) may front rest is =
      written-before_end (after_pipe_frame pipes frame) steps may.1 front rest is
  written-before_end pipes (Puts (items.Shut other) ∷ steps) may front rest is =
      ⊎_elim
      (λ here. let head = here.1 in absurd (let never : ⊥ = cc in never))
      (λ more. ap (transfers_in rid) more.1 ∙ written-before_end (after_item pipes (items.Shut other)) steps may.1 more.0 rest more.2)
      (split-cons (frames.PipeShutR other) (frames.PipeShutW rid) (made_in (after_item pipes (items.Shut other)) steps) front rest is)
  written-before_end pipes (Puts (items.End other) ∷ steps) may front rest is =
      by (has_rid other pipes.shut) (written-before_end (after_item pipes (items.End other)) steps may.1) is
    where
      next : PipesState
      next = after_item pipes (items.End other)

      by : (t : Bool)
          → ((f r : List Frame) → made_in next steps ≡ f ++ frames.PipeShutW rid ∷ r → transfers_in rid f ≡ pieces_in rid (put_in steps))
          → option_to_list (if t then None else Some (frames.PipeShutW other)) ++ made_in next steps ≡ front ++ frames.PipeShutW rid ∷ rest
          → transfers_in rid front ≡ pieces_in rid (put_in steps)
      by true later e = later front rest e
      by false later e =
          ⊎_elim
          (λ here.
          let same : other ≡ rid = (let head = here.1 in cc) in
          let closed : has_rid rid next.closed ≡ true =
          ap (λ (r : ℤ). has_rid r next.closed) (sym same) ∙ has-put pipes.closed other
          in
          ap (transfers_in rid) here.0 ∙ sym (closed-puts next steps closed may.1))
          (λ more. ap (transfers_in rid) more.1 ∙ later more.0 rest more.2)
          (split-cons (frames.PipeShutW other) (frames.PipeShutW rid) (made_in next steps) front rest e)
  written-before_end pipes (Puts (items.Bytes other bytes) ∷ steps) may front rest is =
      by (has_rid other pipes.shut) refl (written-before_end pipes steps may.1) is
    where
      by : (t : Bool) → has_rid other pipes.shut ≡ t
          → ((f r : List Frame) → made_in pipes steps ≡ f ++ frames.PipeShutW rid ∷ r → transfers_in rid f ≡ pieces_in rid (put_in steps))
          → option_to_list (if t then None else Some (frames.PipeTransfer other bytes)) ++ made_in pipes steps ≡ front ++ frames.PipeShutW rid ∷ rest
          → transfers_in rid front ≡ cons_option (if int_eq other rid then Some bytes else None) (pieces_in rid (put_in steps))
      by true shut later e = apart (int_eq other rid) refl
        where
          apart : (b : Bool) → int_eq other rid ≡ b → transfers_in rid front ≡ cons_option (if b then Some bytes else None) (pieces_in rid (put_in steps))
          apart true is_rid =
              let here : has_rid rid pipes.shut ≡ true = ap (λ (r : ℤ). has_rid r pipes.shut) (sym (same_rid other rid is_rid)) ∙ shut in
              absurd (shut-ends pipes steps here front rest e)
          apart false is_rid = later front rest e
      by false shut later e =
          ⊎_elim
          (λ here. let head = here.1 in absurd (let never : ⊥ = cc in never))
          (λ more.
          ap (transfers_in rid) more.1
          ∙ ap (cons_option (if int_eq other rid then Some bytes else None)) (later more.0 rest more.2))
          (split-cons (frames.PipeTransfer other bytes) (frames.PipeShutW rid) (made_in pipes steps) front rest e)
