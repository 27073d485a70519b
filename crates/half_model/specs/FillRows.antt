-- Worked rows of one client with one file: which bytes its commits fill as its file grows, its
-- damage lies turned and scaled, and its buffers come back.
use Rattle.std.specs.Prelude.{◌≡◌, ℕ, zero, suc, if◌then◌else◌, ◌==◌, List, [], ◌∷◌, ◌++◌, ℤ, pos}
use Rattle.std.specs.Prelude.{negsuc, length, map, sum, replicate, Option, Some, None, option_map}
use Rattle.std.specs.List.{range_with_len}
use Rattle.wp_outside.specs.declared.kinds.Side.TheVariants.{Near}
use Rattle.wl_wire.specs.declared.arguments.Arg.TheVariants as arg
use Rattle.wl_wire.specs.Building.{built}
use Rattle.transfer_frames.specs.declared.frame.Frame.TheVariants as frames
use Rattle.half_model.specs.declared.causes.HalfFault.{HalfFault}
use Rattle.half_model.specs.declared.items.PeerIn.{PeerIn}
use Rattle.half_model.specs.declared.items.PeerIn.TheVariants as items
use Rattle.half_model.specs.Filling.{words_bytes}
use Rattle.mirror_pools.specs.Meaning.{mirror}
use Rattle.half_model.specs.Rows.{Shared, opening, opening_frames, attach, damage_buffer, commit}
use Rattle.half_model.specs.Rows.{note_of, ran_items}
use Rattle.half_model.specs.SideRuns.{SideRun, first_run, takes_items, filled_ranges}

-- ---- messages

abbrev pub resize : ℕ → List ℕ
resize size = built 6 2 (arg.Int (pos size) ∷ [])

abbrev pub attach_second : List ℕ
attach_second = built 5 1 (arg.Object 8 ∷ arg.Int (pos 0) ∷ arg.Int (pos 0) ∷ [])

abbrev pub create_second_buffer : List ℕ
create_second_buffer =
    built 6 0 (arg.NewId 8 ∷ arg.Int (pos 256) ∷ arg.Int (pos 16) ∷ arg.Int (pos 4)
    ∷ arg.Int (pos 64) ∷ arg.Uint 0 ∷ [])

abbrev pub damage : ℤ → ℤ → ℤ → ℤ → List ℕ
damage x y w h = built 5 2 (arg.Int x ∷ arg.Int y ∷ arg.Int w ∷ arg.Int h ∷ [])

abbrev pub set_transform : ℕ → List ℕ
set_transform transform = built 5 7 (arg.Int (pos transform) ∷ [])

abbrev pub set_scale : ℕ → List ℕ
set_scale scale = built 5 8 (arg.Int (pos scale) ∷ [])

-- a commit with the note before it
abbrev pub committed : List ℕ → List PeerIn
committed segments = note_of segments ∷ items.Bytes commit ∷ []

-- ---- words

-- all words have this value
abbrev pub all_words : ℕ → Shared
all_words value part = replicate part.count value

-- word 0 holds 5 and word 8 holds 9, all others 0
abbrev pub two_words : Shared
two_words part = map (λ at. if at == 0 then 5 else if at == 8 then 9 else 0)
    (range_with_len part.first part.count)

-- ---- what a row shows

-- which bytes were filled, how many frames were made, the sum of the mirror's bytes, and that
-- nothing was refused
pub record Shown : Type 0 where
  pub fills : List (ℕ × ℕ)
  pub made : ℕ
  pub sum : Option ℕ
  pub fault : Option HalfFault

abbrev pub shown : SideRun → Shown
shown run = record {
  fills = filled_ranges run.made;
  made = length run.made;
  sum = option_map sum (mirror (pos 1) run.made);
  fault = run.fault;
}

abbrev pub shows : List (ℕ × ℕ) → ℕ → ℕ → Shown
shows fills made total = record { fills = fills; made = made; sum = Some total; fault = None }

-- a client that draws all zeros first, and then these words
abbrev pub in_two : List PeerIn → Shared → List PeerIn → Shown
in_two before words later =
    shown (takes_items words later (takes_items (all_words 0) before (first_run Near)))

-- ---- the rows

-- thirteen frames: the file grows before the resize passes, and one FILL goes over two segments
abbrev pub GrownFile : Type 0
GrownFile =
    ran_items (all_words 5) (opening 64 4 8 16 ++ items.Bytes attach ∷ items.Bytes (resize 128)
    ∷ committed (8 ∷ 8 ∷ []))
    ≡ record {
      frames = opening_frames 64 4 8 16
          ++ frames.Protocol attach
          ∷ frames.ExtendFile (pos 1) 128
          ∷ frames.Protocol (resize 128)
          ∷ frames.Fill (pos 1) 0 128 (words_bytes (replicate 16 5))
          ∷ frames.Protocol commit
          ∷ [];
      fault = None;
    }

-- the surface lies turned by 90 degrees: pixel (0, 1) of the buffer alone is due, which is in block
-- 1
abbrev pub RotatedDamage : Type 0
RotatedDamage =
    in_two (opening 128 4 2 64 ++ items.Bytes (set_transform 1) ∷ items.Bytes attach
    ∷ committed (16 ∷ [])) two_words
    (items.Bytes (damage (pos 0) (pos 0) (pos 1) (pos 1)) ∷ committed (16 ∷ []))
    ≡ shows ((0, 128) ∷ (64, 128) ∷ []) 15 9

-- the surface is scaled by two: column 32 is due in both rows, which is in blocks 2 and 5
abbrev pub ScaledDamage : Type 0
ScaledDamage =
    in_two (opening 384 33 2 192 ++ items.Bytes (set_scale 2) ∷ items.Bytes attach
    ∷ committed (48 ∷ [])) (all_words 1)
    (items.Bytes (damage (pos 16) (pos 0) (pos 1) (pos 1)) ∷ committed (48 ∷ []))
    ≡ shows ((0, 384) ∷ (128, 192) ∷ (320, 384) ∷ []) 16 16

-- widths below 0 and sums beyond 32 bits: the first two cover nothing, the third all
abbrev pub DamageEdges : Type 0
DamageEdges =
    in_two (opening 64 4 4 16 ++ items.Bytes attach ∷ committed (8 ∷ [])) (all_words 3)
    (items.Bytes (damage_buffer (pos 0) (pos 0) (negsuc 0) (pos 4)) ∷ committed (8 ∷ [])
    ++ items.Bytes (damage_buffer (negsuc 2147483647) (negsuc 2147483647) (pos 2147483647)
    (pos 2147483647)) ∷ committed (8 ∷ [])
    ++ items.Bytes (damage_buffer (pos 0) (pos 0) (pos 2147483647) (pos 2147483647))
    ∷ committed (8 ∷ []))
    ≡ shows ((0, 64) ∷ (0, 64) ∷ []) 18 24

-- so many commits that damage row 1
abbrev pub row_commits : ℕ → List PeerIn
row_commits zero = []
row_commits (suc count) =
    items.Bytes (damage_buffer (pos 0) (pos 1) (pos 16) (pos 1))
    ∷ committed (64 ∷ []) ++ row_commits count

abbrev pub returning : ℕ → Shown
returning count =
    in_two
    (opening 512 16 4 64 ++ items.Bytes create_second_buffer ∷ items.Bytes attach
    ∷ committed (64 ∷ [])
    ++ items.Bytes attach_second ∷ row_commits count)
    (all_words 1)
    (items.Bytes attach ∷ items.Bytes (damage_buffer (pos 0) (pos 2) (pos 16) (pos 1))
    ∷ committed (64 ∷ []))

-- a buffer that comes back after seven commits has its damaged rows filled, and after eight all its
-- rows
abbrev pub ReturningBuffer : Type 0
ReturningBuffer = returning 6 ≡ shows
    ((0, 256) ∷ (256, 512) ∷ (320, 384) ∷ (320, 384) ∷ (320, 384) ∷ (320, 384) ∷ (320, 384)
    ∷ (64, 192) ∷ []) 35 16

abbrev pub LateBuffer : Type 0
LateBuffer = returning 7 ≡ shows
    ((0, 256) ∷ (256, 512) ∷ (320, 384) ∷ (320, 384) ∷ (320, 384) ∷ (320, 384) ∷ (320, 384)
    ∷ (320, 384) ∷ (0, 256) ∷ []) 38 32
