-- What a peer has received are the messages among the items that it took, the first ones of those that the other side sent.
use Rattle.std.proofs.Common.{◌≡◌, ℕ, ◌+◌, ◌≤◌, cond, List, [], ◌∷◌, ◌++◌, ℤ, Option, Some, None, take, length, refl, sym, ap, ◌∙◌, subst, arith, append_assoc}
use Rattle.std.proofs.lemmas.List.{append-nil}
use Rattle.std.proofs.lemmas.List.Sums.{sum_by-append}
use Rattle.std.specs.Prelude.{count_by}
use Rattle.plain_lists.specs.Fronts.{IsFront}
use Rattle.plain_lists.proofs.FrontLemmas.{IsFront-take, IsFront_first, IsFront_length, IsFront_trans}
use Rattle.wp_outside.specs.declared.kinds.Side.{Side}
use Rattle.wp_outside.specs.declared.kinds.Side.TheVariants.{Near, Far}
use Rattle.wl_objects.specs.Registry.{first_state, visible}
use Rattle.wl_tables.specs.declared.way.Way.{Way}
use Rattle.half_model.specs.declared.items.PeerOut.{PeerOut}
use Rattle.half_model.specs.declared.items.PeerOut.TheVariants as items
use Rattle.half_model.specs.ItemLaws.{given_in, sent_among}
use Rattle.half_model.specs.Log.{Mark}
use Rattle.half_model.specs.PeerState.{PeerState, no_peer, peer_took, peer_took_all, if_good, with_mirrors}
use Rattle.half_model.specs.Sides.{other_side}
use Rattle.half_model.specs.Story.{Sent, accepted_in, messages_in, shown_of}
use Rattle.half_model.specs.StoryLaws.{IsStory}
use Rattle.half_model.proofs.Carrying.{given_is_sent}
use Rattle.half_model.proofs.Given.{items_are_meant}
use Rattle.mirror_pools.specs.Mirrors.{MirrorsState, sizes_of, with_opened, with_grown, with_filled}
use Rattle.mirror_pools.specs.Sizes.{open_cause, extend_cause, fill_cause}
use Rattle.side_model.specs.Follows.{is_message}
use Rattle.pair_laws.specs.Pairs.{OneSide, Sends}
use Rattle.pair_laws.specs.Received.{meant_in, received_in, received_by, messages, Took, ReceivedIsTaken, sent_by, ReceivesPrefixes}
use Rattle.pair_laws.proofs.Auditing.{swapped, other_hears}
use Rattle.pair_laws.proofs.Passing.{order_is_told}
use Rattle.pair_laws.proofs.Places.{front_map}
use Rattle.pair_laws.proofs.Saying as said
use Rattle.pair_laws.proofs.Sending.{sent_is_shown}

-- ---- items

-- the messages among items, and those behind them
sent_front : (rid : Option ℤ) (taken rest : List PeerOut) → IsFront (sent_among rid taken) (sent_among rid (taken ++ rest))
sent_front rid [] rest = record { rest = sent_among rid rest; is = refl }
sent_front rid (items.Handle handle ∷ taken) rest = sent_front (Some handle.number) taken rest
sent_front rid (items.Bytes message ∷ taken) rest =
    let more = sent_front None taken rest in record { rest = more.rest; is = ap (λ (ss : List Sent). (message, rid) ∷ ss) more.is }
sent_front rid (items.Opened other size ∷ taken) rest = sent_front rid taken rest
sent_front rid (items.Grown other size ∷ taken) rest = sent_front rid taken rest
sent_front rid (items.Filled other start piece ∷ taken) rest = sent_front rid taken rest
sent_front rid (items.Pipe item ∷ taken) rest = sent_front rid taken rest
sent_front rid (items.Receipt number segment receipt ∷ taken) rest = sent_front rid taken rest

one_more : (item : PeerOut) (taken : List PeerOut) → count_by is_message (item ∷ taken) ≡ cond (is_message item) 1 0 + count_by is_message taken
one_more item taken = let e = sum_by-append (λ (it : PeerOut). cond (is_message it) 1 0) (item ∷ []) taken in omega (arith, e)

pub sent_count : (rid : Option ℤ) (taken : List PeerOut) → length (sent_among rid taken) ≡ count_by is_message taken
sent_count rid [] = refl
sent_count rid (items.Handle handle ∷ taken) = let more = sent_count (Some handle.number) taken in let one = one_more (items.Handle handle) taken in omega (arith, more, one)
sent_count rid (items.Bytes message ∷ taken) =
    let more = sent_count None taken in let one = one_more (items.Bytes message) taken in omega (arith, more, one)
sent_count rid (items.Opened other size ∷ taken) = let more = sent_count rid taken in let one = one_more (items.Opened other size) taken in omega (arith, more, one)
sent_count rid (items.Grown other size ∷ taken) = let more = sent_count rid taken in let one = one_more (items.Grown other size) taken in omega (arith, more, one)
sent_count rid (items.Filled other start piece ∷ taken) = let more = sent_count rid taken in let one = one_more (items.Filled other start piece) taken in omega (arith, more, one)
sent_count rid (items.Pipe item ∷ taken) = let more = sent_count rid taken in let one = one_more (items.Pipe item) taken in omega (arith, more, one)
sent_count rid (items.Receipt number segment receipt ∷ taken) = let more = sent_count rid taken in let one = one_more (items.Receipt number segment receipt) taken in omega (arith, more, one)

-- ---- one peer

-- all messages that a side has for its peer are those that its frames mean
pub meant_count : (side : Side) (story : List Mark) → IsStory side story → length (meant_in side story) ≡ count_by is_message (given_in side story)
meant_count side story logs = ap length (sym (items_are_meant.messages side story logs)) ∙ sent_count None (given_in side story)

taken_rids : (side : Side) (story : List Mark) (given : ℕ) (taken : List PeerOut) → IsStory side story → Took side story given taken → sent_among None taken ≡ received_in side story given
taken_rids side story given taken logs took =
    let first : IsFront (sent_among None taken) (meant_in side story) =
    subst (λ (ss : List Sent). IsFront (sent_among None taken) ss) (ap (sent_among None) took.first.is ∙ items_are_meant.messages side story logs) (sent_front None taken took.first.rest) in
    IsFront_first first ∙ ap (λ n. take n (meant_in side story)) (sent_count None taken ∙ sym took.counts)

-- a check of the sizes leaves the messages
same_messages : {X : Type 0} (cause : Option X) (mirrors : MirrorsState) (peer : PeerState) → (if_good cause (with_mirrors mirrors peer) peer).messages ≡ peer.messages
same_messages None mirrors peer = refl
same_messages (Some cause) mirrors peer = refl

held_messages : (rid : Option ℤ) (taken : List PeerOut) (peer : PeerState) → (peer_took_all taken peer).messages ≡ peer.messages ++ messages (sent_among rid taken)
held_messages rid [] peer = sym (append-nil peer.messages)
held_messages rid (items.Bytes message ∷ taken) peer =
    held_messages None taken (peer_took (items.Bytes message) peer) ∙ append_assoc peer.messages (message ∷ []) (messages (sent_among None taken))
held_messages rid (items.Handle handle ∷ taken) peer = held_messages (Some handle.number) taken (peer_took (items.Handle handle) peer)
held_messages rid (items.Opened other size ∷ taken) peer =
    held_messages rid taken (peer_took (items.Opened other size) peer)
    ∙ ap (λ (ms : List (List ℕ)). ms ++ messages (sent_among rid taken)) (same_messages (open_cause other size (sizes_of peer.mirrors)) (with_opened other size peer.mirrors) peer)
held_messages rid (items.Grown other size ∷ taken) peer =
    held_messages rid taken (peer_took (items.Grown other size) peer)
    ∙ ap (λ (ms : List (List ℕ)). ms ++ messages (sent_among rid taken)) (same_messages (extend_cause other size (sizes_of peer.mirrors)) (with_grown other size peer.mirrors) peer)
held_messages rid (items.Filled other start piece ∷ taken) peer =
    held_messages rid taken (peer_took (items.Filled other start piece) peer)
    ∙ ap (λ (ms : List (List ℕ)). ms ++ messages (sent_among rid taken)) (same_messages (fill_cause other (start + length piece) (sizes_of peer.mirrors)) (with_filled other start piece peer.mirrors) peer)
held_messages rid (items.Pipe item ∷ taken) peer = held_messages rid taken (peer_took (items.Pipe item) peer)
held_messages rid (items.Receipt number segment receipt ∷ taken) peer = held_messages rid taken peer

few_taken : (side : Side) (story : List Mark) (given : ℕ) (taken : List PeerOut) → IsStory side story → Took side story given taken → given ≤ length (messages_in (accepted_in story))
few_taken side story given taken logs took =
    let first : IsFront (sent_among None taken) (meant_in side story) =
    subst (λ (ss : List Sent). IsFront (sent_among None taken) ss) (ap (sent_among None) took.first.is ∙ items_are_meant.messages side story logs) (sent_front None taken took.first.rest) in
    omega (arith, IsFront_length first, sent_count None taken, took.counts, said.meant_length side story logs)

pub received_is_taken : ReceivedIsTaken
received_is_taken = record {
  rids = taken_rids;
  held = λ side story given taken logs took. held_messages None taken no_peer ∙ ap messages (taken_rids side story given taken logs took);
  heard = said.received_messages;
  few = few_taken;
  follows = λ s book f. record { first = record { rest = s.live.items; is = f.items.row }; counts = f.items.counts };
}

-- ---- both peers

-- what was received are the first messages that the sender sent
pub received_front : (side : Side) (sender hearer : OneSide) (both : Sends side sender hearer) → IsFront (received_by (other_side side) hearer both.other_law) (sent_by side sender both.one_law)
received_front side sender hearer both =
    IsFront_trans (IsFront-take hearer.book.trail.given (meant_in (other_side side) both.other_law.story))
    (given_is_sent side both.one_law.story both.other_law.story both.one_law.log both.other_law.log (other_hears both))

-- and so it is of all that were heard
heard_messages : (side : Side) (sender hearer : OneSide) (both : Sends side sender hearer) → IsFront (messages_in (accepted_in both.other_law.story)) (shown_of side both.one_law.story)
heard_messages side sender hearer both =
    subst (λ (ms : List (List ℕ)). IsFront ms (shown_of side both.one_law.story)) (said.meant_messages (other_side side) both.other_law.story both.other_law.log)
    (subst (λ (ms : List (List ℕ)). IsFront (messages (meant_in (other_side side) both.other_law.story)) ms) (sent_is_shown side both.one_law.story both.one_law.log)
    (front_map (λ (it : Sent). it.0) (given_is_sent side both.one_law.story both.other_law.story both.one_law.log both.other_law.log (other_hears both))))

received_messages : (side : Side) (sender hearer : OneSide) (both : Sends side sender hearer) → IsFront (messages (received_by (other_side side) hearer both.other_law)) (shown_of side both.one_law.story)
received_messages side sender hearer both =
    subst (λ (ms : List (List ℕ)). IsFront (messages (received_by (other_side side) hearer both.other_law)) ms) (sent_is_shown side both.one_law.story both.one_law.log)
    (front_map (λ (it : Sent). it.0) (received_front side sender hearer both))

pub receives_prefixes : ReceivesPrefixes
receives_prefixes near far pair =
    let back : Sends Far far near = swapped pair in
    record {
      up = subst (λ (ms : List (List ℕ)). IsFront (messages (received_by Far far pair.other_law)) ms) (sym pair.one_law.tells.taken) (received_messages Near near far pair);
      up_rids = received_front Near near far pair;
      down = subst (λ (all : List (Way × List ℕ)). IsFront (messages (received_by Near near pair.one_law)) (visible first_state all)) (sym (order_is_told Far far pair.other_law)) (received_messages Far far near back);
      down_rids = received_front Far far near back;
      up_heard = subst (λ (ms : List (List ℕ)). IsFront (messages_in (accepted_in pair.other_law.story)) ms) (sym pair.one_law.tells.taken) (heard_messages Near near far pair);
      down_heard = subst (λ (all : List (Way × List ℕ)). IsFront (messages_in (accepted_in pair.one_law.story)) (visible first_state all)) (sym (order_is_told Far far pair.other_law)) (heard_messages Far far near back);
    }
