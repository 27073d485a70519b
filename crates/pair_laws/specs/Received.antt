-- What the two peers of a pair have received: the messages, each with the rid of its handle, and the
-- mirrors at each message. Messages are Wayland's; rids, mirrors and records are this project's
-- own.
use Rattle.std.specs.Prelude.{◌≡◌, ℕ, ◌≤◌, List, ◌∷◌, ◌++◌, ℤ, length, map, take, slice_get, Option, Some}
use Rattle.std.specs.Prelude.{None, count_by}
use Rattle.plain_lists.specs.Fronts.{IsFront}
use Rattle.wp_outside.specs.declared.kinds.Side.{Side}
use Rattle.wp_outside.specs.declared.kinds.Side.TheVariants.{Near, Far}
use Rattle.wl_objects.specs.Registry.{first_state, visible}
use Rattle.transfer_frames.specs.declared.frame.Frame.{Frame}
use Rattle.transfer_frames.specs.declared.frame.Frame.TheVariants.{Protocol}
use Rattle.half_model.specs.declared.items.PeerOut.{PeerOut}
use Rattle.half_model.specs.declared.items.PeerOut.TheVariants as items
use Rattle.half_model.specs.ItemLaws.{given_in, sent_among}
use Rattle.half_model.specs.Log.{Mark, log_new}
use Rattle.half_model.specs.Meaning.{none_carried, carry_all}
use Rattle.half_model.specs.PeerLaws.{file_at}
use Rattle.half_model.specs.PeerState.{no_peer, peer_took_all}
use Rattle.half_model.specs.Sides.{other_side}
use Rattle.half_model.specs.Story.{Sent, accepted_in, messages_in, sent_from, shown_of}
use Rattle.half_model.specs.StoryLaws.{IsStory}
use Rattle.mirror_laws.specs.MessageLaws.{IsGrouped}
use Rattle.mirror_laws.specs.MirrorLaws.{mirror_behind}
use Rattle.mirror_pools.specs.Meaning.{mirror}
use Rattle.side_model.specs.Books.{Book}
use Rattle.side_model.specs.Follows.{Follows, is_message}
use Rattle.side_model.specs.State.{Now}
use Rattle.pair_laws.specs.Passing.{passing_by}
use Rattle.pair_laws.specs.Pairs.{OneSide, IsLawful, IsPair, Sends}

-- ---- one peer

-- what the accepted frames of a side mean: messages, each with the rid of its handle
abbrev pub meant_in : Side → List Mark → List Sent
meant_in side story = (carry_all side story none_carried).given

-- the peer of a side has received as many of them as were given
abbrev pub received_in : Side → List Mark → ℕ → List Sent
received_in side story given = take given (meant_in side story)

abbrev pub received_by : (side : Side) (it : OneSide) → IsLawful side it → List Sent
received_by side it law = received_in side law.story it.book.trail.given

abbrev pub messages : List Sent → List (List ℕ)
messages sent = map (λ it. it.0) sent

-- the items that a peer took so far of those that its side had for it, so many messages among them
pub record Took (side : Side) (story : List Mark) (given : ℕ) (items : List PeerOut)
    : Type 0 where
  pub first : IsFront items (given_in side story)
  pub counts : given ≡ count_by is_message items

-- its messages are just those
pub record ReceivedIsTaken : Type 0 where
  pub rids : (side : Side) (story : List Mark) (given : ℕ) (items : List PeerOut)
      → IsStory side story → Took side story given items
      → sent_among None items ≡ received_in side story given
  pub held : (side : Side) (story : List Mark) (given : ℕ) (items : List PeerOut)
      → IsStory side story → Took side story given items
      → (peer_took_all items no_peer).messages ≡ messages (received_in side story given)
  -- and the first ones in the frames that its side accepted
  pub heard : (side : Side) (story : List Mark) (given : ℕ) → IsStory side story
      → messages (received_in side story given) ≡ take given (messages_in (accepted_in story))
  pub few : (side : Side) (story : List Mark) (given : ℕ) (items : List PeerOut)
      → IsStory side story → Took side story given items
      → given ≤ length (messages_in (accepted_in story))
  -- while a proxy has not failed, what its peer was given is so taken
  pub follows : (s : Now) (book : Book) (f : Follows s book)
      → Took s.side f.story book.trail.given f.items.gone

-- ---- what was sent

-- what a side sent: the messages that it took, as they are shown, each with the rid of its handle
abbrev pub sent_in : Side → List Mark → List Sent
sent_in side story = sent_from (log_new side) story

abbrev pub sent_by : (side : Side) (it : OneSide) → IsLawful side it → List Sent
sent_by side it law = sent_in side law.story

abbrev pub SentIsShown : Type 0
SentIsShown = (side : Side) (story : List Mark) → IsStory side story
    → messages (sent_in side story) ≡ shown_of side story

-- ---- both peers

-- The compositor has received the first messages that the near side took, and the application the
-- first ones that the registry view shows of the far side's order; each with the rid of its handle.
-- So it is of all messages in the frames that their sides accepted, given or not.
pub record Prefixes (near far : OneSide) (pair : IsPair near far) : Type 0 where
  pub up : IsFront (messages (received_by Far far pair.other_law)) near.book.trail.taken
  pub up_rids : IsFront (received_by Far far pair.other_law) (sent_by Near near pair.one_law)
  pub down : IsFront (messages (received_by Near near pair.one_law))
      (visible first_state (passing_by Far far pair.other_law))
  pub down_rids : IsFront (received_by Near near pair.one_law) (sent_by Far far pair.other_law)
  pub up_heard : IsFront (messages_in (accepted_in pair.other_law.story)) near.book.trail.taken
  pub down_heard : IsFront (messages_in (accepted_in pair.one_law.story))
      (visible first_state (passing_by Far far pair.other_law))

abbrev pub ReceivesPrefixes : Type 0
ReceivesPrefixes = (near far : OneSide) (pair : IsPair near far) → Prefixes near far pair

-- ---- the mirrors

-- A message that the hearer's peer has received, the one of this index: the frames that were heard
-- before its own, its group in the sender's story, and that the mirrors behind those frames are
-- those of the sender's own log there.
pub record ReceivedAt (side : Side) (sender hearer : List Mark) (index : ℕ) (message : List ℕ)
    : Type 0 where
  pub front : List Frame
  pub later : List Frame
  pub heard : accepted_in hearer ≡ front ++ Protocol message ∷ later
  pub count : length (messages_in front) ≡ index
  pub at : IsGrouped side sender front message
  pub mirrors : (rid : ℤ) → mirror rid front ≡ mirror_behind at.earlier at.inner rid

abbrev pub MirrorsAreSent : Type 0
MirrorsAreSent = (side : Side) (sender hearer : OneSide) (both : Sends side sender hearer)
    (index : ℕ) (message : List ℕ) (rid : Option ℤ)
    → slice_get (received_by (other_side side) hearer both.other_law) index ≡ Some (message, rid)
    → ReceivedAt side both.one_law.story both.other_law.story index message

-- When the hearer's peer is given that message, behind these items, the files that it has are those
-- mirrors.
abbrev pub PeerHasMirrors : Type 0
PeerHasMirrors = (side : Side) (sender hearer : OneSide) (both : Sends side sender hearer)
    (before after : List PeerOut) (message : List ℕ)
    → given_in (other_side side) both.other_law.story ≡ before ++ items.Bytes message ∷ after
    → (it : ReceivedAt side both.one_law.story both.other_law.story (count_by is_message before)
    message)
    → (rid : ℤ) → file_at rid (peer_took_all before no_peer) ≡ mirror rid it.front
