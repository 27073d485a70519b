-- What the peers of a run have received.
use Rattle.std.proofs.Common.{◌≡◌, ℕ, zero, suc, List, [], ◌∷◌, ◌++◌, Bool, true, false, Option, Some, None, refl, sym, ap, subst, ◌∙◌, append_assoc, inl, inr, if◌then◌else◌}
use Rattle.std.proofs.lemmas.List.{append-nil}
use Rattle.std.proofs.lemmas.List.Elements.{All-from_recursion}
use Rattle.std.specs.Prelude.{All}
use Rattle.std.specs.List.{AllByRecursion}
use Rattle.plain_lists.specs.Fronts.{IsFront}
use Rattle.wp_outside.specs.declared.kinds.Side.{Side}
use Rattle.wp_outside.specs.declared.kinds.Side.TheVariants.{Near, Far}
use Rattle.wl_wire.specs.Wire.{cut, cut_rest, joined, IsMessage, Cuts}
use Rattle.wl_wire.proofs.Cutting.{cut-cuts, cuts-cut, cuts-append, messages-cut}
use Rattle.half_model.specs.declared.items.PeerIn.{PeerIn}
use Rattle.script_lang.specs.Puts.{if_peer, is_stop, put_by, before_stop, put_by_all, puts}
use Rattle.script_lang.specs.declared.steps.Step.{Step}
use Rattle.script_lang.specs.declared.steps.StepKind.{StepKind}
use Rattle.script_lang.specs.declared.steps.StepKind.TheVariants as line
use Rattle.pair_model.specs.Lines.{Agrees}
use Rattle.pair_laws.specs.Pairs.{IsPair}
use Rattle.pair_laws.specs.Received.{Prefixes}
use Rattle.pair_laws.proofs.Receiving.{receives_prefixes}
use Rattle.pair_runs.specs.Headline.{Brings, TakesFirst, RunsTakeFirst, fault_of, RunsReceive}
use Rattle.pair_runs.specs.Kept.{Kept, KeptAt, one_side}
use Rattle.pair_runs.specs.RunLaws.{fault_by}
use Rattle.pair_runs.specs.Runs.{Played, Rounds, settles, moves_of, Does, DoesBy, End, PlaysLine, Plays, AreLines, round, MOST, size_after, bytes_in}
use Rattle.pair_runs.specs.Sides.{rows_of}
use Rattle.pair_runs.specs.States.{State, Fault, first_state}
use Rattle.pair_runs.proofs.Agreeing.{runs_agree}
use Rattle.pair_runs.proofs.Bringing.{Both, BothPart, BothBy, both_part, both_more, put_in, moves_bring}
use Rattle.pair_runs.proofs.Ends.{front_then}
use Rattle.pair_runs.proofs.Keeping.{runs_keep}

-- ---- rounds

unput : (stop : Option Fault) (near far : List ℕ) (t : State) → BothBy stop (near ++ []) (far ++ []) t → BothBy stop near far t
unput stop near far t h = subst (λ (xs : List ℕ). BothBy stop xs far t) (append-nil near) (subst (λ (xs : List ℕ). BothBy stop (near ++ []) xs t) (append-nil far) h)

rounds_bring : (count most : ℕ) (near far : List ℕ) (s t : State) (stop : Option Fault) → Both near far s → Rounds count most s t stop → BothBy stop near far t
rounds_bring zero most near far s t stop h r = unput stop near far t (moves_bring (round most) near far s t stop h r.0)
rounds_bring (suc count) most near far s t stop h r = rounds_bring count most near far r.0 t stop (unput None near far r.0 (moves_bring (round most) near far s r.0 None h r.1)) r.3

-- ---- lines

-- what a peer puts by a line is what its script says
one_put : (peer whose : Side) (items : List PeerIn) (bytes : List ℕ) → bytes_in items ≡ if_peer Near whose bytes ++ if_peer Far whose bytes → if_peer peer whose (bytes_in items) ++ [] ≡ if_peer peer whose bytes
one_put Near Near items bytes e = append-nil (bytes_in items) ∙ e ∙ append-nil bytes
one_put Near Far items bytes e = refl
one_put Far Near items bytes e = refl
one_put Far Far items bytes e = append-nil (bytes_in items) ∙ e

none_put : (peer whose : Side) (items : List PeerIn) → bytes_in items ≡ [] → if_peer peer whose (bytes_in items) ++ [] ≡ []
none_put Near Near items e = append-nil (bytes_in items) ∙ e
none_put Near Far items e = refl
none_put Far Near items e = refl
none_put Far Far items e = append-nil (bytes_in items) ∙ e

line_puts : (peer : Side) (what : StepKind) (items : List PeerIn) → bytes_in items ≡ put_by Near what ++ put_by Far what → put_in peer (moves_of what items) ≡ put_by peer what
line_puts peer (line.Hex whose bytes) items e = one_put peer whose items bytes e
line_puts peer (line.Say whose text) items e = one_put peer whose items text.message e
line_puts peer (line.File whose number size) items e = refl
line_puts peer (line.Grow whose number size) items e = refl
line_puts peer (line.Fill whose number first count value) items e = refl
line_puts peer (line.Pipe whose number) items e = refl
line_puts peer (line.Give whose number) items e = none_put peer whose items e
line_puts peer (line.Put whose pipe bytes) items e = none_put peer whose items e
line_puts peer (line.End whose pipe) items e = none_put peer whose items e
line_puts peer (line.Shut whose number) items e = none_put peer whose items e
line_puts peer (line.Await whose count) items e = refl
line_puts peer (line.Take whose bytes) items e = refl
line_puts peer (line.Load words) items e = refl
line_puts peer line.Connect items e = refl
line_puts peer line.Break items e = refl
line_puts peer (line.Send dir bytes) items e = refl
line_puts peer (line.Recv dir bytes) items e = refl
line_puts peer (line.Both dir bytes) items e = refl
line_puts peer (line.Spoil dir offset byte) items e = refl
line_puts peer (line.Cut dir bytes) items e = refl
line_puts peer (line.Close whose) items e = refl
line_puts peer line.Settle items e = refl
line_puts peer (line.Drain bytes) items e = refl
line_puts peer line.Stop items e = refl

pub settle_puts : (peer : Side) (what : StepKind) → settles what ≡ true → put_by peer what ≡ []
settle_puts peer (line.Await whose count) e = refl
settle_puts peer line.Settle e = refl
settle_puts peer (line.Hex whose bytes) e = absurd cc
settle_puts peer (line.Say whose text) e = absurd cc
settle_puts peer _ e = refl

pub does_bring : (it : Played) (near far : List ℕ) (s t : State) (stop : Option Fault) → bytes_in it.puts ≡ put_by Near it.what ++ put_by Far it.what → Both near far s → Does it s t stop → BothBy stop (near ++ put_by Near it.what) (far ++ put_by Far it.what) t
does_bring it near far s t stop e h d = go (settles it.what) refl d
  where
    go : (b : Bool) → settles it.what ≡ b → DoesBy b it s t stop → BothBy stop (near ++ put_by Near it.what) (far ++ put_by Far it.what) t
    go true k m =
        subst (λ (xs : List ℕ). BothBy stop xs (far ++ put_by Far it.what) t) (sym (ap (λ (xs : List ℕ). near ++ xs) (settle_puts Near it.what k) ∙ append-nil near))
        (subst (λ (xs : List ℕ). BothBy stop near xs t) (sym (ap (λ (xs : List ℕ). far ++ xs) (settle_puts Far it.what k) ∙ append-nil far)) (rounds_bring m.count MOST near far s t stop h m.rounds))
    go false k m =
        subst (λ (xs : List ℕ). BothBy stop (near ++ xs) (far ++ put_by Far it.what) t) (line_puts Near it.what it.puts e)
        (subst (λ (xs : List ℕ). BothBy stop (near ++ put_in Near (moves_of it.what it.puts)) (far ++ xs) t) (line_puts Far it.what it.puts e)
        (moves_bring (moves_of it.what it.puts) near far s t stop h m))

-- ---- a script

part_regroup : (near far a b c d : List ℕ) (t : State) → BothPart ((near ++ a) ++ b) ((far ++ c) ++ d) t → BothPart (near ++ (a ++ b)) (far ++ (c ++ d)) t
part_regroup near far a b c d t h =
    subst (λ (xs : List ℕ). BothPart xs (far ++ (c ++ d)) t) (append_assoc near a b) (subst (λ (xs : List ℕ). BothPart ((near ++ a) ++ b) xs t) (append_assoc far c d) h)

part_by : (stop : Option Fault) (near far : List ℕ) (t : State) → BothBy stop near far t → BothPart near far t
part_by None near far t h = both_part near far t h
part_by (Some fault) near far t h = h

next_puts : (peer : Side) (it : Step) (steps : List Step) → is_stop it.what ≡ false → put_by_all peer (before_stop (it ∷ steps)) ≡ put_by peer it.what ++ put_by_all peer (before_stop steps)
next_puts peer it steps e = ap (λ (b : Bool). put_by_all peer (if b then [] else it ∷ before_stop steps)) e

plays_bring : (steps : List Step) (played : List Played) (most : ℕ) (near far : List ℕ) (s t : State) (end : End) → AreLines steps played → Both near far s → Plays played most s t end → BothPart (near ++ puts Near steps) (far ++ puts Far steps) t
plays_bring [] [] most near far s t end lines h (stop, settled, is) =
    both_more near far [] [] t (part_by stop near far t (rounds_bring settled.count most near far s t stop h settled.rounds))
plays_bring [] (it ∷ played) most near far s t end lines h p = absurd lines
plays_bring (step ∷ steps) [] most near far s t end lines h p = absurd lines
plays_bring (step ∷ steps) (it ∷ played) most near far s t end lines h p =
    go (λ between both more. plays_bring steps played (size_after most it.what) (near ++ put_by Near it.what) (far ++ put_by Far it.what) between t end lines.2 both more) (is_stop it.what) refl p
  where
    same : put_by Near step.what ++ put_by Far step.what ≡ put_by Near it.what ++ put_by Far it.what
    same = sym (ap (λ (what : StepKind). put_by Near what ++ put_by Far what) lines.0)

    all_puts : (peer : Side) → is_stop it.what ≡ false → put_by peer it.what ++ puts peer steps ≡ puts peer (step ∷ steps)
    all_puts peer e =
        ap (λ (what : StepKind). put_by peer what ++ puts peer steps) lines.0
        ∙ sym (next_puts peer step steps (sym (ap is_stop lines.0) ∙ e))

    grouped : is_stop it.what ≡ false → BothPart ((near ++ put_by Near it.what) ++ puts Near steps) ((far ++ put_by Far it.what) ++ puts Far steps) t → BothPart (near ++ puts Near (step ∷ steps)) (far ++ puts Far (step ∷ steps)) t
    grouped e b =
        subst (λ (xs : List ℕ). BothPart (near ++ xs) (far ++ puts Far (step ∷ steps)) t) (all_puts Near e)
        (subst (λ (xs : List ℕ). BothPart (near ++ (put_by Near it.what ++ puts Near steps)) (far ++ xs) t) (all_puts Far e)
        (part_regroup near far (put_by Near it.what) (puts Near steps) (put_by Far it.what) (puts Far steps) t b))

    go : ((between : State) → Both (near ++ put_by Near it.what) (far ++ put_by Far it.what) between → Plays played (size_after most it.what) between t end → BothPart ((near ++ put_by Near it.what) ++ puts Near steps) ((far ++ put_by Far it.what) ++ puts Far steps) t)
        → (b : Bool) → is_stop it.what ≡ b → PlaysLine b it (λ between. Plays played (size_after most it.what) between t end) s t end → BothPart (near ++ puts Near (step ∷ steps)) (far ++ puts Far (step ∷ steps)) t
    go others true e d = subst (λ (u : State). BothPart (near ++ puts Near (step ∷ steps)) (far ++ puts Far (step ∷ steps)) u) (sym d.0) (both_more near far (puts Near (step ∷ steps)) (puts Far (step ∷ steps)) s (both_part near far s h))
    go others false e (inl fails) = grouped e (both_more (near ++ put_by Near it.what) (far ++ put_by Far it.what) (puts Near steps) (puts Far steps) t (does_bring it near far s t (Some fails.0) (lines.1 ∙ same) h fails.1))
    go others false e (inr goes) = grouped e (others goes.0 (does_bring it near far s goes.0 None (lines.1 ∙ same) h goes.1) goes.2)

-- ---- what was taken

pub all_plain : (messages : List (List ℕ)) → AllByRecursion IsMessage messages → All IsMessage messages
all_plain messages h = All-from_recursion IsMessage messages h

pub taken_first : (put : List ℕ) (taken : List (List ℕ)) (rest : List ℕ) → Brings put taken rest → IsFront taken (cut put)
taken_first put taken rest h =
    let cuts : Cuts (joined taken ++ rest) (taken ++ cut rest) (cut_rest rest) = cuts-append taken (joined taken) [] rest (cut rest) (cut_rest rest) (messages-cut taken (all_plain taken h.whole)) (cut-cuts rest) in
    record { rest = cut rest; is = sym (cuts-cut (joined taken ++ rest) (taken ++ cut rest) (cut_rest rest) cuts).0 ∙ ap cut h.bytes }

pub runs_take_first : RunsTakeFirst
runs_take_first steps played last end r =
    let b : BothPart (puts Near steps) (puts Far steps) last = plays_bring steps played MOST [] [] first_state last end r.lines (record { near_brings = record { whole = tt; bytes = refl }; far_brings = record { whole = tt; bytes = refl } }) r.plays in
    record {
      near = taken_first (puts Near steps) last.near.book.trail.taken b.near_part.0 b.near_part.1;
      far = taken_first (puts Far steps) last.far.book.trail.taken b.far_part.0 b.far_part.1;
    }

-- ---- what was received

pair_by : (stop : Option Fault) (s : State) → Kept stop s → Agrees (rows_of s.near) (rows_of s.far) → IsPair (one_side s.near (fault_of Near stop)) (one_side s.far (fault_of Far stop))
pair_by None s k a = record { one_law = k.0.law; other_law = k.1.law; agrees = a }
pair_by (Some it) s k a = by_side it.side k
  where
    by_side : (side : Side) → KeptAt side it.fault s → IsPair (one_side s.near (fault_of Near (Some (record { side = side; fault = it.fault })))) (one_side s.far (fault_of Far (Some (record { side = side; fault = it.fault }))))
    by_side Near k = record { one_law = k.0; other_law = k.1.law; agrees = a }
    by_side Far k = record { one_law = k.0.law; other_law = k.1; agrees = a }

pub runs_receive : RunsReceive
unfolding pair_by
runs_receive steps played last end r h =
    let stop : Option Fault = fault_by end in
    let pair : IsPair (one_side last.near (fault_of Near stop)) (one_side last.far (fault_of Far stop)) = pair_by stop last (runs_keep.last steps played last end r) (runs_agree.agree steps played last end r h) in
    let prefixes : Prefixes (one_side last.near (fault_of Near stop)) (one_side last.far (fault_of Far stop)) pair = receives_prefixes (one_side last.near (fault_of Near stop)) (one_side last.far (fault_of Far stop)) pair in
    let first : TakesFirst steps last = runs_take_first steps played last end r in
    record { pair = pair; prefixes = prefixes; up = front_then prefixes.up first.near; events = first.far }
