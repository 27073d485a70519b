-- Worked rows: what a sending half makes of a few messages of wayland.xml, computed from their
-- bytes.
use Rattle.std.specs.Prelude.{◌≡◌, ℕ, zero, suc, List, [], ◌∷◌, ◌++◌, ℤ, pos, map, Option, Some}
use Rattle.std.specs.Prelude.{None, length, codes}
use Rattle.wp_outside.specs.declared.kinds.Side.TheVariants.{Near}
use Rattle.wp_outside.specs.declared.kinds.HandleKind.TheVariants.{File}
use Rattle.wl_wire.specs.declared.arguments.Arg.TheVariants as arg
use Rattle.wl_wire.specs.Building.{built}
use Rattle.pool_words.specs.Views.{EyeState, ReceiptState, no_pool}
use Rattle.transfer_frames.specs.declared.frame.Frame.{Frame}
use Rattle.transfer_frames.specs.declared.frame.Frame.TheVariants as frames
use Rattle.half_model.specs.declared.causes.HalfFault.{HalfFault}
use Rattle.half_model.specs.declared.items.PeerIn.{PeerIn}
use Rattle.half_model.specs.declared.items.PeerIn.TheVariants as items
use Rattle.half_model.specs.Filling.{Part, words_bytes}
use Rattle.half_model.specs.Inlet.{with_item}
use Rattle.half_model.specs.Jobs.{Job, IsBack}
use Rattle.half_model.specs.Tables.{Tables, first_tables}
use Rattle.half_model.specs.Turn.{Sending, no_sending, Turn, Idle, Refuses, Takes, turn, MadeGroup}
use Rattle.half_model.specs.Turn.{group_due, settled}

-- ---- a plain run of a sending half: each copy is loaded at once

-- the words of a file's segment
abbrev pub Shared : Type 0
Shared = Part → List ℕ

abbrev pub receipt_at : ℕ → ReceiptState
receipt_at high = record { pool = no_pool; number = 0; high = high; loads = [] }

abbrev pub loaded : Shared → Job → Job
loaded words job = record job { state = IsBack (words job.part) (receipt_at job.low) }

-- the frames of the waiting messages, so many at most, or the fault of the first that is refused
pub record Ran : Type 0 where
  pub frames : List Frame
  pub fault : Option HalfFault

abbrev pub frames_first : List Frame → Ran → Ran
frames_first more ran = record ran { frames = more ++ ran.frames }

abbrev pub after_due : Option MadeGroup → Ran → Ran
after_due None ran = ran
after_due (Some group) ran = frames_first group.frames ran

abbrev pub ran_turn : Turn → Shared → (Tables → Sending → Ran) → Ran
ran_turn Idle words next = record { frames = []; fault = None }
ran_turn (Refuses fault) words next = record { frames = []; fault = Some fault }
ran_turn (Takes it) words next =
    after_due (group_due it.sending.owes (map (loaded words) it.jobs))
    (next it.tables (settled it.sending))

abbrev pub run_within : ℕ → Shared → Tables → Sending → Ran
run_within zero words tables s = record { frames = []; fault = None }
run_within (suc most) words tables s = ran_turn (turn tables s) words (run_within most words)

abbrev pub fed_all : List PeerIn → Sending → Sending
fed_all [] s = s
fed_all (item ∷ rest) s = fed_all rest (record s { inlet = with_item item s.inlet })

-- ---- messages

abbrev pub get_registry : List ℕ
get_registry = built 1 1 (arg.NewId 2 ∷ [])

abbrev pub bind : ℕ → List ℕ → ℕ → ℕ → List ℕ
bind name interface version id = built 2 0 (arg.Uint name ∷ arg.Bind interface version id ∷ [])

abbrev pub create_surface : List ℕ
create_surface = built 3 0 (arg.NewId 5 ∷ [])

abbrev pub create_pool : ℕ → List ℕ
create_pool size = built 4 0 (arg.NewId 6 ∷ arg.Handle ∷ arg.Int (pos size) ∷ [])

abbrev pub create_buffer : ℕ → ℕ → ℕ → List ℕ
create_buffer width height stride =
    built 6 0 (arg.NewId 7 ∷ arg.Int (pos 0) ∷ arg.Int (pos width) ∷ arg.Int (pos height)
    ∷ arg.Int (pos stride) ∷ arg.Uint 0 ∷ [])

abbrev pub attach : List ℕ
attach = built 5 1 (arg.Object 7 ∷ arg.Int (pos 0) ∷ arg.Int (pos 0) ∷ [])

abbrev pub damage_buffer : ℤ → ℤ → ℤ → ℤ → List ℕ
damage_buffer x y w h = built 5 9 (arg.Int x ∷ arg.Int y ∷ arg.Int w ∷ arg.Int h ∷ [])

abbrev pub commit : List ℕ
commit = built 5 6 []

-- one file with these segments, seen after so many writes
abbrev pub eye_of : ℕ → EyeState
eye_of words = record { pool = no_pool; number = 0; words = words; low = 0; seen = [] }

abbrev pub note_of : List ℕ → PeerIn
note_of segments =
    items.Note (record { files = record { number = pos 1; eyes = map eye_of segments } ∷ [] })

abbrev pub file_handle : PeerIn
file_handle = items.Handle (record { number = pos 1; kind = File })

-- a file, its pool and one buffer of it
abbrev pub opening : ℕ → ℕ → ℕ → ℕ → List PeerIn
opening size width height stride =
    items.Bytes get_registry
    ∷ items.Bytes (bind 1 (codes "wl_compositor") 6 3)
    ∷ items.Bytes (bind 2 (codes "wl_shm") 1 4)
    ∷ items.Bytes create_surface
    ∷ file_handle
    ∷ items.Bytes (create_pool size)
    ∷ items.Bytes (create_buffer width height stride)
    ∷ []

abbrev pub opening_frames : ℕ → ℕ → ℕ → ℕ → List Frame
opening_frames size width height stride =
    frames.Protocol get_registry
    ∷ frames.Protocol (bind 1 (codes "wl_compositor") 6 3)
    ∷ frames.Protocol (bind 2 (codes "wl_shm") 1 4)
    ∷ frames.Protocol create_surface
    ∷ frames.OpenFile (pos 1) size
    ∷ frames.Inject (pos 1 ∷ [])
    ∷ frames.Protocol (create_pool size)
    ∷ frames.Protocol (create_buffer width height stride)
    ∷ []

abbrev pub ran_items : Shared → List PeerIn → Ran
ran_items words given =
    run_within (length given) words (first_tables Near) (fed_all given no_sending)

-- ---- the rows

-- words 3 and 4 hold 9, all others 257
abbrev pub split_words : Shared
split_words part = 257 ∷ 257 ∷ 257 ∷ 9 ∷ 9 ∷ 257 ∷ 257 ∷ 257 ∷ []

abbrev pub split_bytes : List ℕ
split_bytes = words_bytes (split_words (record { file = pos 1; segment = 0; first = 0; count = 8 }))

-- twelve frames: the FILL goes before the commit's message
abbrev pub TwelveFrames : Type 0
TwelveFrames =
    ran_items split_words (opening 64 4 4 16 ++ items.Bytes attach
    ∷ items.Bytes (damage_buffer (pos 0) (pos 0) (pos 1) (pos 1)) ∷ note_of (8 ∷ [])
    ∷ items.Bytes commit ∷ [])
    ≡ record {
      frames = opening_frames 64 4 4 16
          ++ frames.Protocol attach
          ∷ frames.Protocol (damage_buffer (pos 0) (pos 0) (pos 1) (pos 1))
          ∷ frames.Fill (pos 1) 0 64 split_bytes
          ∷ frames.Protocol commit
          ∷ [];
      fault = None;
    }
