-- A pipe at its owner's side: the owner is given each piece that is accepted until it shuts, and the end behind the pieces that stand before it.
use Rattle.std.proofs.Common.{◌≡◌, Bool, true, false, ◌||◌, ℤ, ℕ, List, [], ◌∷◌, ◌++◌, Option, Some, None, ◌⊎◌, ⊎_elim, inl, inr, refl, sym, ◌∙◌, ap, subst}
use Rattle.std.proofs.lemmas.Cmp.{int_eq_equiv}
use Rattle.std.proofs.lemmas.List.{append-nil}
use Rattle.std.proofs.lemmas.List.Elements.{filter_map-append}
use Rattle.std.proofs.lemmas.List.Folds.{list_any-append}
use Rattle.std.specs.Bool.{if◌then◌else◌}
use Rattle.std.specs.List.{list_any, filter_map, cons_option}
use Rattle.std.specs.Option.{option_to_list}
use Rattle.std.specs.Ordering.{int_eq}
use Rattle.plain_lists.specs.Fronts.{IsFront}
use Rattle.plain_lists.proofs.FrontLemmas.{IsFront_nil}
use Rattle.wp_outside.specs.declared.pipe_items.PipeItem.{PipeItem}
use Rattle.wp_outside.specs.declared.pipe_items.PipeItem.TheVariants as items
use Rattle.transfer_frames.specs.declared.frame.Frame.{Frame}
use Rattle.transfer_frames.specs.declared.frame.Frame.TheVariants as frames
use Rattle.pipe_relay.specs.Pipes.{PipesState, Rids, has_rid, with_rid, item_of_frame, after_item, after_pipe_frame}
use Rattle.pipe_relay.specs.Rows.{PipeStep, OpensOwn, OpensOther, Puts, Hears, after_step, after_steps, put_at, put_in, heard_at, heard_in, given_at, given_in, piece_of, pieces_in, transfer_of, transfers_in, is_end_of, is_shut_of}
use Rattle.pipe_relay.proofs.RidLemmas.{same_rid, other_rid, neither, has-put, has-kept, hasnt-put, split-cons, split-nil, IsFront-behind_same}

-- what a frame of the other side leaves alone
left-heard : (pipes : PipesState) (frame : Frame) → (after_pipe_frame pipes frame).left ≡ pipes.left
left-heard pipes (frames.PipeShutW rid) = refl
left-heard pipes (frames.PipeShutR rid) = refl
left-heard pipes frame = refl

module _ (rid : ℤ) where
  -- ---- a pipe that its owner has shut

  left-step : (pipes : PipesState) (step : PipeStep) → has_rid rid pipes.left ≡ true → has_rid rid (after_step pipes step).left ≡ true
  left-step pipes (OpensOwn other) left = left
  left-step pipes (OpensOther other) left = left
  left-step pipes (Puts (items.Bytes other bytes)) left = left
  left-step pipes (Puts (items.End other)) left = left
  left-step pipes (Puts (items.Shut other)) left = has-kept pipes.left other rid left
  left-step pipes (Hears frame) left = ap (has_rid rid) (left-heard pipes frame) ∙ left

  -- one step gives no piece of it, nor its end
  left-gives : (pipes : PipesState) (step : PipeStep) → has_rid rid pipes.left ≡ true
      → (pieces_in rid (given_at pipes step) ≡ []) × (list_any (is_end_of rid) (given_at pipes step) ≡ false)
  left-gives pipes (OpensOwn other) left = (refl, refl)
  left-gives pipes (OpensOther other) left = (refl, refl)
  left-gives pipes (Puts item) left = (refl, refl)
  left-gives pipes (Hears (frames.PipeShutR other)) left = (refl, refl)
  left-gives pipes (Hears (frames.PipeShutW other)) left = by (has_rid other pipes.left) refl
    where
      by : (t : Bool) → has_rid other pipes.left ≡ t
          → (pieces_in rid (option_to_list (if t then None else Some (items.End other))) ≡ [])
          × (list_any (is_end_of rid) (option_to_list (if t then None else Some (items.End other))) ≡ false)
      by true is = (refl, refl)
      by false is = (refl, ap (λ (b : Bool). b || false) (int_eq_equiv.symm other rid ∙ other_rid rid other pipes.left left is))
  left-gives pipes (Hears (frames.PipeTransfer other bytes)) left = by (has_rid other pipes.left) refl
    where
      by : (t : Bool) → has_rid other pipes.left ≡ t
          → (pieces_in rid (option_to_list (if t then None else Some (items.Bytes other bytes))) ≡ [])
          × (list_any (is_end_of rid) (option_to_list (if t then None else Some (items.Bytes other bytes))) ≡ false)
      by true is = (refl, refl)
      by false is = (
        ap (λ (b : Bool). cons_option (if b then Some bytes else None) []) (int_eq_equiv.symm other rid ∙ other_rid rid other pipes.left left is),
        refl,
      )
  left-gives pipes (Hears frame) left = (refl, refl)

  pub left-pieces : (pipes : PipesState) (steps : List PipeStep) → has_rid rid pipes.left ≡ true → pieces_in rid (given_in pipes steps) ≡ []
  left-pieces pipes [] left = refl
  left-pieces pipes (step ∷ steps) left =
      filter_map-append (piece_of rid) (given_at pipes step) (given_in (after_step pipes step) steps)
      ∙ ap (λ (l : List (List ℕ)). l ++ pieces_in rid (given_in (after_step pipes step) steps)) (left-gives pipes step left).0
      ∙ left-pieces (after_step pipes step) steps (left-step pipes step left)

  pub left-ends : (pipes : PipesState) (steps : List PipeStep) → has_rid rid pipes.left ≡ true → list_any (is_end_of rid) (given_in pipes steps) ≡ false
  left-ends pipes [] left = refl
  left-ends pipes (step ∷ steps) left =
      list_any-append (is_end_of rid) (given_at pipes step) (given_in (after_step pipes step) steps)
      ∙ ap (λ (b : Bool). b || list_any (is_end_of rid) (given_in (after_step pipes step) steps)) (left-gives pipes step left).1
      ∙ left-ends (after_step pipes step) steps (left-step pipes step left)

  -- a list with the end in it has one
  has-end : (front rest : List PipeItem) → list_any (is_end_of rid) (front ++ items.End rid ∷ rest) ≡ true
  has-end front rest =
      list_any-append (is_end_of rid) front (items.End rid ∷ rest)
      ∙ ap (λ (b : Bool). list_any (is_end_of rid) front || (b || list_any (is_end_of rid) rest)) (int_eq_equiv.refl rid)
      ∙ either (list_any (is_end_of rid) front)
    where
      either : (b : Bool) → (b || true) ≡ true
      either true = refl
      either false = refl

  none-left : (pipes : PipesState) (steps : List PipeStep) → has_rid rid pipes.left ≡ true
      → (front rest : List PipeItem) → given_in pipes steps ≡ front ++ items.End rid ∷ rest → ⊥
  none-left pipes steps left front rest is =
      let there : list_any (is_end_of rid) (given_in pipes steps) ≡ true = ap (list_any (is_end_of rid)) is ∙ has-end front rest in
      let gone = left-ends pipes steps left in
      cc

  -- what the rows of the law begin with
  pub left-behind : (pipes : PipesState) (front : List PipeStep)
      → has_rid rid (after_steps pipes (front ++ Puts (items.Shut rid) ∷ [])).left ≡ true
  left-behind pipes [] = has-put pipes.left rid
  left-behind pipes (step ∷ front) = left-behind (after_step pipes step) front

  -- ---- a pipe that its owner reads

  -- one step gives each piece that is accepted
  reads-gives : (pipes : PipesState) (step : PipeStep) → has_rid rid pipes.left ≡ false
      → pieces_in rid (given_at pipes step) ≡ transfers_in rid (heard_at step)
  reads-gives pipes (OpensOwn other) reads = refl
  reads-gives pipes (OpensOther other) reads = refl
  reads-gives pipes (Puts item) reads = refl
  reads-gives pipes (Hears (frames.PipeShutR other)) reads = refl
  reads-gives pipes (Hears (frames.PipeShutW other)) reads = by (has_rid other pipes.left)
    where
      by : (t : Bool) → pieces_in rid (option_to_list (if t then None else Some (items.End other))) ≡ []
      by true = refl
      by false = refl
  reads-gives pipes (Hears (frames.PipeTransfer other bytes)) reads = by (has_rid other pipes.left) refl
    where
      by : (t : Bool) → has_rid other pipes.left ≡ t
          → pieces_in rid (option_to_list (if t then None else Some (items.Bytes other bytes)))
          ≡ transfers_in rid (frames.PipeTransfer other bytes ∷ [])
      by true is = sym (ap (λ (b : Bool). cons_option (if b then Some bytes else None) []) (other_rid other rid pipes.left is reads))
      by false is = refl
  reads-gives pipes (Hears frame) reads = refl

  -- the pieces that it is given are the first that are accepted
  pub first-given : (pipes : PipesState) (steps : List PipeStep) → IsFront (pieces_in rid (given_in pipes steps)) (transfers_in rid (heard_in steps))
  first-given pipes [] = IsFront_nil []
  first-given pipes (step ∷ steps) = by (first-given (after_step pipes step) steps) (has_rid rid pipes.left) refl
    where
      next : PipesState
      next = after_step pipes step

      by : IsFront (pieces_in rid (given_in next steps)) (transfers_in rid (heard_in steps)) → (t : Bool) → has_rid rid pipes.left ≡ t
          → IsFront (pieces_in rid (given_in pipes (step ∷ steps))) (transfers_in rid (heard_in (step ∷ steps)))
      by later true is =
          subst (λ (l : List (List ℕ)). IsFront l (transfers_in rid (heard_in (step ∷ steps)))) (sym (left-pieces pipes (step ∷ steps) is))
          (IsFront_nil (transfers_in rid (heard_in (step ∷ steps))))
      by later false is =
          let given : pieces_in rid (given_in pipes (step ∷ steps)) ≡ transfers_in rid (heard_at step) ++ pieces_in rid (given_in next steps) =
          filter_map-append (piece_of rid) (given_at pipes step) (given_in next steps)
          ∙ ap (λ (l : List (List ℕ)). l ++ pieces_in rid (given_in next steps)) (reads-gives pipes step is)
          in
          let heard : transfers_in rid (heard_in (step ∷ steps)) ≡ transfers_in rid (heard_at step) ++ transfers_in rid (heard_in steps) =
          filter_map-append (transfer_of rid) (heard_at step) (heard_in steps)
          in
          subst (λ (l : List (List ℕ)). IsFront l (transfers_in rid (heard_in (step ∷ steps)))) (sym given) (
          subst (λ (l : List (List ℕ)). IsFront (transfers_in rid (heard_at step) ++ pieces_in rid (given_in next steps)) l) (sym heard)
          (IsFront-behind_same (transfers_in rid (heard_at step)) _ _ later))

  -- a pipe that its owner doesn't shut stays so
  reads-step : (pipes : PipesState) (step : PipeStep) → has_rid rid pipes.left ≡ false
      → list_any (is_shut_of rid) (put_at step) ≡ false → has_rid rid (after_step pipes step).left ≡ false
  reads-step pipes (OpensOwn other) reads stays = reads
  reads-step pipes (OpensOther other) reads stays = reads
  reads-step pipes (Puts (items.Bytes other bytes)) reads stays = reads
  reads-step pipes (Puts (items.End other)) reads stays = reads
  reads-step pipes (Puts (items.Shut other)) reads stays =
      hasnt-put pipes.left other rid (either (int_eq other rid) stays) reads
    where
      either : (b : Bool) → (b || false) ≡ false → b ≡ false
      either true is = is
      either false is = refl
  reads-step pipes (Hears frame) reads stays = ap (has_rid rid) (left-heard pipes frame) ∙ reads

  -- then it is given all pieces that are accepted
  pub all-given : (pipes : PipesState) (steps : List PipeStep) → has_rid rid pipes.left ≡ false
      → list_any (is_shut_of rid) (put_in steps) ≡ false
      → pieces_in rid (given_in pipes steps) ≡ transfers_in rid (heard_in steps)
  all-given pipes [] reads stays = refl
  all-given pipes (step ∷ steps) reads stays =
      let parts : (list_any (is_shut_of rid) (put_at step) || list_any (is_shut_of rid) (put_in steps)) ≡ false =
      sym (list_any-append (is_shut_of rid) (put_at step) (put_in steps)) ∙ stays
      in
      let both = neither (list_any (is_shut_of rid) (put_at step)) (list_any (is_shut_of rid) (put_in steps)) parts in
      filter_map-append (piece_of rid) (given_at pipes step) (given_in (after_step pipes step) steps)
      ∙ ap (λ (l : List (List ℕ)). l ++ pieces_in rid (given_in (after_step pipes step) steps)) (reads-gives pipes step reads)
      ∙ ap (λ (l : List (List ℕ)). transfers_in rid (heard_at step) ++ l)
      (all-given (after_step pipes step) steps (reads-step pipes step reads both.0) both.1)
      ∙ sym (filter_map-append (transfer_of rid) (heard_at step) (heard_in steps))

  -- ---- the end

  -- what was accepted is split at the frame of the end, and the pieces before it are those that were given before the end
  pub record EndAt (frames_heard : List Frame) (given : List PipeItem) : Type 0 where
    pub before : List Frame
    pub after : List Frame
    pub is : frames_heard ≡ before ++ frames.PipeShutW rid ∷ after
    pub pieces : pieces_in rid given ≡ transfers_in rid before

  -- one frame more in front, which gives no piece
  behind : (frame : Frame) (heard : List Frame) (given more : List PipeItem) → transfer_of rid frame ≡ None
      → pieces_in rid more ≡ pieces_in rid given → EndAt heard given → EndAt (frame ∷ heard) more
  behind frame heard given more none same at = record {
    before = frame ∷ at.before;
    after = at.after;
    is = ap (λ (l : List Frame). frame ∷ l) at.is;
    pieces = same ∙ at.pieces ∙ sym (ap (λ (o : Option (List ℕ)). cons_option o (transfers_in rid at.before)) none);
  }

  pub given-before_end : (pipes : PipesState) (steps : List PipeStep)
      → (front rest : List PipeItem) → given_in pipes steps ≡ front ++ items.End rid ∷ rest → EndAt (heard_in steps) front
  given-before_end pipes [] front rest is = absurd (split-nil (items.End rid) front rest is)
  given-before_end pipes (OpensOwn other ∷ steps) front rest is = given-before_end (after_step pipes (OpensOwn other)) steps front rest is
  given-before_end pipes (OpensOther other ∷ steps) front rest is = given-before_end (after_step pipes (OpensOther other)) steps front rest is
  given-before_end pipes (Puts item ∷ steps) front rest is = given-before_end (after_item pipes item) steps front rest is
  given-before_end pipes (Hears (frames.PipeShutR other) ∷ steps) front rest is =
      ⊎_elim
      (λ here. let head = here.1 in absurd (let never : ⊥ = cc in never))
      (λ more. behind (frames.PipeShutR other) (heard_in steps) more.0 front refl (ap (pieces_in rid) more.1)
      (given-before_end (after_pipe_frame pipes (frames.PipeShutR other)) steps more.0 rest more.2))
      (split-cons (items.Shut other) (items.End rid) (given_in (after_pipe_frame pipes (frames.PipeShutR other)) steps) front rest is)
  given-before_end pipes (Hears (frames.PipeShutW other) ∷ steps) front rest is =
      by (has_rid other pipes.left) (given-before_end (after_pipe_frame pipes (frames.PipeShutW other)) steps) is
    where
      next : PipesState
      next = after_pipe_frame pipes (frames.PipeShutW other)

      by : (t : Bool)
          → ((f r : List PipeItem) → given_in next steps ≡ f ++ items.End rid ∷ r → EndAt (heard_in steps) f)
          → option_to_list (if t then None else Some (items.End other)) ++ given_in next steps ≡ front ++ items.End rid ∷ rest
          → EndAt (frames.PipeShutW other ∷ heard_in steps) front
      by true later e = behind (frames.PipeShutW other) (heard_in steps) front front refl refl (later front rest e)
      by false later e =
          ⊎_elim
          (λ here. record {
            before = [];
            after = heard_in steps;
            is = (let head = here.1 in let same : other ≡ rid = cc in ap (λ (r : ℤ). frames.PipeShutW r ∷ heard_in steps) same);
            pieces = ap (pieces_in rid) here.0;
          })
          (λ more. behind (frames.PipeShutW other) (heard_in steps) more.0 front refl (ap (pieces_in rid) more.1) (later more.0 rest more.2))
          (split-cons (items.End other) (items.End rid) (given_in next steps) front rest e)
  given-before_end pipes (Hears (frames.PipeTransfer other bytes) ∷ steps) front rest is =
      by (has_rid other pipes.left) refl (given-before_end pipes steps) is
    where
      by : (t : Bool) → has_rid other pipes.left ≡ t
          → ((f r : List PipeItem) → given_in pipes steps ≡ f ++ items.End rid ∷ r → EndAt (heard_in steps) f)
          → option_to_list (if t then None else Some (items.Bytes other bytes)) ++ given_in pipes steps ≡ front ++ items.End rid ∷ rest
          → EndAt (frames.PipeTransfer other bytes ∷ heard_in steps) front
      by true left later e = apart (int_eq other rid) refl
        where
          apart : (b : Bool) → int_eq other rid ≡ b → EndAt (frames.PipeTransfer other bytes ∷ heard_in steps) front
          apart true is_rid =
              let here : has_rid rid pipes.left ≡ true = ap (λ (r : ℤ). has_rid r pipes.left) (sym (same_rid other rid is_rid)) ∙ left in
              absurd (none-left pipes steps here front rest e)
          apart false is_rid =
              behind (frames.PipeTransfer other bytes) (heard_in steps) front front (ap (λ (b : Bool). if b then Some bytes else None) is_rid) refl (later front rest e)
      by false left later e =
          ⊎_elim
          (λ here. let head = here.1 in absurd (let never : ⊥ = cc in never))
          (λ more. let at = later more.0 rest more.2 in record {
            before = frames.PipeTransfer other bytes ∷ at.before;
            after = at.after;
            is = ap (λ (l : List Frame). frames.PipeTransfer other bytes ∷ l) at.is;
            pieces =
                ap (pieces_in rid) more.1
                ∙ ap (cons_option (if int_eq other rid then Some bytes else None)) at.pieces;
          })
          (split-cons (items.Bytes other bytes) (items.End rid) (given_in pipes steps) front rest e)
  given-before_end pipes (Hears frame ∷ steps) front rest is =
      behind frame (heard_in steps) front front refl refl (given-before_end (after_pipe_frame pipes frame) steps front rest is)
