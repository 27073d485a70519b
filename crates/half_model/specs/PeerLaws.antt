-- The law that a peer which took all that it was given has what the other side's frames mean: the
-- messages, and the files with their sizes and bytes. Messages are Wayland's, all else is this
-- project's own.
use Rattle.std.specs.Prelude.{◌≡◌, ℕ, ℤ, List, map, Option, option_map}
use Rattle.std.specs.BTreeMap.{is_at}
use Rattle.std.specs.Map.{lookup}
use Rattle.std.specs.Ordering.{int_cmp}
use Rattle.wp_outside.specs.declared.kinds.Side.{Side}
use Rattle.half_model.specs.ItemLaws.{given_in}
use Rattle.half_model.specs.Log.{Mark}
use Rattle.half_model.specs.Meaning.{none_carried, carry_all}
use Rattle.mirror_pools.specs.Meaning.{mirror}
use Rattle.half_model.specs.PeerState.{PeerState, no_peer, peer_took_all}
use Rattle.mirror_pools.specs.Mirrors.{sizes_of}
use Rattle.half_model.specs.Story.{heard_in}
use Rattle.half_model.specs.StoryLaws.{now, IsStory}

-- the peer of a side that took all it was given
abbrev pub peer_in : Side → List Mark → PeerState
peer_in side story = peer_took_all (given_in side story) no_peer

-- the bytes of a file of the other peer
abbrev pub file_at : ℤ → PeerState → Option (List ℕ)
file_at rid peer = option_map (λ it. it.bytes) (lookup (is_at (int_cmp rid)) peer.mirrors)

-- a peer has received what the frames mean that its side heard
pub record PeerHasMeaning : Type 0 where
  pub messages : (side : Side) (story : List Mark) → IsStory side story
      → (peer_in side story).messages
      ≡ map (λ sent. sent.0) (carry_all side story none_carried).given
  pub sizes : (side : Side) (story : List Mark) → IsStory side story
      → sizes_of (peer_in side story).mirrors ≡ (now side story).taking.sizes
  pub files : (side : Side) (story : List Mark) (rid : ℤ) → IsStory side story
      → file_at rid (peer_in side story) ≡ mirror rid (heard_in story)
