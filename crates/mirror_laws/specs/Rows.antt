-- A worked row: what a commit makes of the mirror of a file with two segments, of which it fills
-- two runs; and mirrors that no message makes. Messages are Wayland's; mirrors, blocks and frames
-- are this project's own.
use Rattle.std.specs.Prelude.{◌≡◌, ℕ, pos, List, [], ◌∷◌, ◌++◌, map, replicate, Some, None}
use Rattle.pool_words.specs.declared.views.Write.{Write}
use Rattle.pool_words.specs.Views.{write}
use Rattle.block_intervals.specs.declared.run.Run.{Run}
use Rattle.block_intervals.specs.Statements.{counted}
use Rattle.wl_wire.specs.Building.{built}
use Rattle.transfer_frames.specs.declared.frame.Frame.{Frame}
use Rattle.transfer_frames.specs.declared.frame.Frame.TheVariants.{Protocol, OpenFile, Fill}
use Rattle.half_model.specs.declared.notes.CopyRecord.{CopyRecord}
use Rattle.half_model.specs.Filling.{words_bytes}
use Rattle.half_model.specs.Group.{Owed, IsGroup}
use Rattle.mirror_pools.specs.Meaning.{mirror}
use Rattle.mirror_laws.specs.MirrorLaws.{IsFilled, Fills}
use Rattle.mirror_laws.specs.StoodLaws.{WordStood}

-- ---- one commit

-- wl_surface.commit of object 5
abbrev pub commit : List ℕ
commit = built 5 6 []

abbrev pub run : ℕ → ℕ → Run
run first end = record { first = first; end = end }

-- the file 9 is rid 1 and has segments of 8 and 24 words; its blocks 0, 1 and 3 are filled
abbrev pub owed_commit : Owed
owed_commit = record {
  before = [];
  rid = pos 1;
  file = pos 9;
  pieces = run 0 2 ∷ run 3 4 ∷ [];
  segments = 8 ∷ 24 ∷ [];
  shown = Some commit;
}

-- eight words of a segment, with values from one on; 3 writes stood before the note, and 4 at the
-- end of the copy
abbrev pub copy_of : ℕ → ℕ → ℕ → CopyRecord
copy_of segment first value = record {
  file = pos 9;
  segment = segment;
  first = first;
  words = counted value 8;
  low = 3;
  high = 4;
}

-- the first run goes over both segments
abbrev pub three_copies : List CopyRecord
three_copies = copy_of 0 0 1 ∷ copy_of 1 0 9 ∷ copy_of 1 16 17 ∷ []

abbrev pub two_fills : List Frame
two_fills =
    Fill (pos 1) 0 128 (words_bytes (counted 1 16))
    ∷ Fill (pos 1) 192 256 (words_bytes (counted 17 8))
    ∷ []

-- 64 bytes
abbrev pub block_of : ℕ → List ℕ
block_of byte = replicate 64 byte

-- a file of 250 bytes, of which block 2 was filled before, and another one
abbrev pub earlier : List Frame
earlier = OpenFile (pos 1) 250 ∷ OpenFile (pos 2) 3 ∷ Fill (pos 1) 128 192 (block_of 7) ∷ []

-- at the commit the mirror has all 24 words, and block 2 as before; the other one has its zeros
pub record CommitFills : Type 0 where
  pub group : IsGroup owed_commit three_copies (two_fills ++ Protocol commit ∷ [])
  pub own : mirror (pos 1) (earlier ++ two_fills)
      ≡ Some (words_bytes (counted 1 16) ++ (block_of 7 ++ words_bytes (counted 17 8)))
  pub other : mirror (pos 2) (earlier ++ two_fills) ≡ Some (block_of 0)

-- ---- mirrors that are refused

-- a file of three blocks, of which block 0 gets ones and block 2 twos
abbrev pub FromZeros : List ℕ → Type 0
FromZeros new =
    IsFilled 192 (run 0 1 ∷ run 2 3 ∷ []) (block_of 1 ++ block_of 2) (replicate 192 0) new

-- the same blocks, the later one named first
abbrev pub Unsorted : List ℕ → Type 0
Unsorted new =
    IsFilled 192 (run 2 3 ∷ run 0 1 ∷ []) (block_of 2 ++ block_of 1) (replicate 192 0) new

pub record WrongMirrors : Type 0 where
  -- the right one
  pub right : FromZeros (block_of 1 ++ (block_of 0 ++ block_of 2))
  -- the blocks in the other order
  pub reversed : FromZeros (block_of 2 ++ (block_of 0 ++ block_of 1)) → ⊥
  -- no gap between the blocks
  pub adjoining : FromZeros (block_of 1 ++ (block_of 2 ++ block_of 0)) → ⊥
  -- a byte between them changed
  pub spilled : FromZeros (block_of 1 ++ ((5 ∷ replicate 63 0) ++ block_of 2)) → ⊥
  -- nothing filled yet, as where a message stands before its blocks
  pub unfilled : FromZeros (replicate 192 0) → ⊥
  -- one block too many
  pub longer : FromZeros (block_of 1 ++ (block_of 0 ++ (block_of 2 ++ block_of 0))) → ⊥
  -- runs that do not ascend, or lie past the end
  pub unsorted : Unsorted (block_of 1 ++ (block_of 0 ++ block_of 2)) → ⊥
  pub outside : IsFilled 64 (run 1 2 ∷ []) [] (block_of 0) (block_of 0) → ⊥
  -- a mirror that is lost, one of no file, and one of another file that was changed
  pub lost : Fills (Some 64) [] [] (Some (block_of 0)) None → ⊥
  pub made_up : Fills None [] [] None (Some (block_of 0)) → ⊥
  pub other_changed : Fills (Some 64) [] [] (Some (block_of 0)) (Some (block_of 1)) → ⊥

-- ---- a word that changes during its copy

-- what was written to word 1 of a segment
abbrev pub written : List ℕ → List Write
written values = map (write 1) values

-- word 9 of the file is word 1 of its second segment, and 10 in the mirror
abbrev pub TenStood : List ℕ → Type 0
TenStood values =
    WordStood (λ file segment. written values) owed_commit three_copies 9
    (words_bytes (counted 1 16))

pub record ChangingWord : Type 0 where
  -- the fourth write says 10, which stood at the end of the copy
  pub in_time : TenStood (5 ∷ 5 ∷ 5 ∷ 10 ∷ 6 ∷ [])
  -- only the fifth one does, and the third one is the last of the note
  pub too_late : TenStood (5 ∷ 5 ∷ 5 ∷ 7 ∷ 10 ∷ []) → ⊥
  pub too_early : TenStood (10 ∷ 10 ∷ 5 ∷ 7 ∷ 6 ∷ []) → ⊥
