-- The copies of a group have as many bytes as its pieces.
use Rattle.std.proofs.Common.{◌≡◌, ◌*◌, List, length, Option, Some, subst}
use Rattle.std.specs.Option.{MatchOption}
use Rattle.wp_outside.specs.declared.kinds.Side.{Side}
use Rattle.transfer_frames.specs.declared.frame.Frame.{Frame}
use Rattle.half_model.specs.declared.notes.CopyRecord.{CopyRecord}
use Rattle.half_model.specs.Filling.{words_bytes}
use Rattle.half_model.specs.Group.{Owed, IsGroup, words_in}
use Rattle.half_model.specs.Log.{LogState}
use Rattle.half_model.proofs.Copies.{copied_bytes}
use Rattle.half_model.proofs.Owing.{OwedGood}
use Rattle.half_model.proofs.Pieces.{blocks_in}
use Rattle.half_model.proofs.Sound.{Sound}

pub good_owed : (side : Side) (s : LogState) (owed : Owed) → Sound side s → s.owes ≡ Some owed → OwedGood owed
good_owed side s owed h e = let P : Option Owed → Type 0 = λ owes. MatchOption owes (Unit {0}) OwedGood in subst P e h.owes

pub copied : (side : Side) (s : LogState) (owed : Owed) (copies : List CopyRecord) (frames : List Frame) → Sound side s → s.owes ≡ Some owed → IsGroup owed copies frames
    → length (words_bytes (words_in copies)) ≡ 64 * blocks_in owed.pieces
copied side s owed copies frames h e group =
    let good = good_owed side s owed h e in
    copied_bytes owed copies good.high good.ascend good.covered group.are_parts
