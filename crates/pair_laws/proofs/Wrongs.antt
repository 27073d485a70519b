-- Pairs of records that no two sides have whose lines agree.
use Rattle.std.proofs.Common.{◌≡◌, ℕ, List, [], ◌∷◌, ◌++◌, Option, Some, length, sym, ap, ◌∙◌, subst, arith, append_assoc, get_or}
use Rattle.std.proofs.lemmas.List.{length-map}
use Rattle.std.specs.Option.{IsSomeAnd}
use Rattle.std.specs.Prelude.{slice_get}
use Rattle.plain_lists.specs.Fronts.{IsFront}
use Rattle.plain_lists.proofs.FrontLemmas.{IsFront_length}
use Rattle.wp_outside.specs.declared.kinds.Side.{Side}
use Rattle.wp_outside.specs.declared.kinds.Side.TheVariants.{Near, Far}
use Rattle.transfer_frames.specs.declared.frame.Frame.{Frame}
use Rattle.half_model.specs.Story.{Sent, accepted_in}
use Rattle.side_model.specs.declared.fault.ProxyFault.{ProxyFault}
use Rattle.pair_laws.specs.Pairs.{OneSide, Joined, IsPair}
use Rattle.pair_laws.specs.PipeRuns.{PipesReach}
use Rattle.pair_laws.specs.Received.{received_by, sent_by}
use Rattle.pair_laws.specs.Refusing.{OnlyByMessages}
use Rattle.pair_laws.specs.Stood.{StoodOrIs}
use Rattle.pair_laws.specs.WrongPairs.{AcceptsTwice, LeavesOut, AcceptsUnmade, KnowsTooMuch, RefusesElse, ReceivesAnother, ReceivesOtherRid, HearsEarly, MissesOne, FillsUnstood, GivesUnput, EndsPipeEarly}
use Rattle.pair_laws.proofs.Auditing.{each_heard}
use Rattle.pair_laws.proofs.Everything.{drained_has_everything}
use Rattle.pair_laws.proofs.Mirrors.{stood_words}
use Rattle.pair_laws.proofs.Orders.{heard_was_made}
use Rattle.pair_laws.proofs.Places.{get_front, get_middle}
use Rattle.pair_laws.proofs.Receiving.{received_front}
use Rattle.pair_laws.proofs.Refusing.{unspoiled}

-- ---- frames

heard_here : {one_side other_side : Side} {one other : OneSide} (both : Joined one_side other_side one other) → IsFront (accepted_in both.one_law.story) other.book.trail.made
heard_here {one_side} {other_side} {one} {other} both = (each_heard one_side other_side one other both).one_heard

-- a front has the items of its list, at their places
same_item : (heard made before later after : List Frame) (here there : Frame) → IsFront heard made → heard ≡ before ++ here ∷ later → made ≡ before ++ there ∷ after → here ≡ there
same_item heard made before later after here there f h m =
    let one : slice_get made (length before) ≡ Some here = get_front (length before) here f (ap (λ (fs : List Frame). slice_get fs (length before)) h ∙ get_middle before here later) in
    let two : slice_get made (length before) ≡ Some there = ap (λ (fs : List Frame). slice_get fs (length before)) m ∙ get_middle before there after in
    let both : Some here ≡ Some there = sym one ∙ two in
    cc

pub accepts_twice : AcceptsTwice
accepts_twice one_side other_side one other both before frame next after later h m apart =
    apart (same_item (accepted_in both.one_law.story) other.book.trail.made (before ++ frame ∷ []) after later frame next (heard_here both)
    (h ∙ sym (append_assoc before (frame ∷ []) (frame ∷ after))) (m ∙ sym (append_assoc before (frame ∷ []) (next ∷ later))))

pub leaves_out : LeavesOut
leaves_out one_side other_side one other both before frame next after later h m apart =
    apart (sym (same_item (accepted_in both.one_law.story) other.book.trail.made before after (next ∷ later) next frame (heard_here both) h m))

pub accepts_unmade : AcceptsUnmade
accepts_unmade one_side other_side one other both l = omega (arith, l, IsFront_length (heard_here both), both.one_law.tells.accepted)

pub knows_too_much : KnowsTooMuch
knows_too_much one_side other_side one other both l = let k = (each_heard one_side other_side one other both).one_knows in omega (arith, l, k)

pub refuses_else : RefusesElse
refuses_else near far connection place cause pair same never e =
    never (subst (λ (f : Option ProxyFault). OnlyByMessages f) e (unspoiled near far pair same).1)

-- ---- messages

-- what was received at a place was sent there
same_sent : (near far : OneSide) (pair : IsPair near far) (index : ℕ) (received sent : Sent)
    → slice_get (received_by Far far pair.other_law) index ≡ Some received → slice_get (sent_by Near near pair.one_law) index ≡ Some sent → received ≡ sent
same_sent near far pair index received sent r s =
    let there : slice_get (sent_by Near near pair.one_law) index ≡ Some received = get_front index received (received_front Near near far pair) r in
    let both : Some received ≡ Some sent = sym there ∙ s in
    cc

pub receives_another : ReceivesAnother
receives_another near far pair index received sent rid other r s apart =
    apart (ap (λ (it : Sent). it.0) (same_sent near far pair index (received, rid) (sent, other) r s))

pub receives_other_rid : ReceivesOtherRid
receives_other_rid near far pair index received sent rid other r s apart =
    apart (ap (λ (it : Sent). it.1) (same_sent near far pair index (received, rid) (sent, other) r s))

pub hears_early : HearsEarly
hears_early side sender hearer both earlier frame later message split one shows l =
    omega (arith, l, IsFront_length (heard_was_made side sender hearer both earlier frame later message split one shows).frames)

pub misses_one : MissesOne
misses_one near far pair drained l =
    omega (arith, l, ap length (drained_has_everything near far pair drained).up, length-map (received_by Far far pair.other_law) (λ (it : Sent). it.0))

-- ---- mirrors and pipes

pub fills_unstood : FillsUnstood
fills_unstood histories side sender hearer index message it word bytes all one there never =
    let stood : StoodOrIs histories it.at.owed it.at.copies word bytes =
    subst (λ (m : Option (List ℕ)). IsSomeAnd m (StoodOrIs histories it.at.owed it.at.copies word)) there (stood_words histories side sender hearer index message it all word one) in
    let w = stood.stood in
    never w.copy w.index (get_or w.copy.words w.index 0) w.is_one w.within w.file w.place w.stood.1 w.is

pub gives_unput : PipesReach → GivesUnput
gives_unput reach side sender hearer both steps given rid run front l =
    omega (arith, l, IsFront_length (reach side sender hearer both steps given rid run front).pieces)

pub ends_pipe_early : PipesReach → EndsPipeEarly
ends_pipe_early reach side sender hearer both steps given rid first rest run front e l =
    omega (arith, l, ap length ((reach side sender hearer both steps given rid run front).end first rest e))
