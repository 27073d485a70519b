-- At each message its filled blocks have the words of its copies, and all else is as before.
use Rattle.std.proofs.Common.{◌≡◌, ℕ, false, List, [], length, ℤ, Option, Some, None, option_map, sym, ap, ◌∙◌, subst, ◌≢◌}
use Rattle.std.proofs.lemmas.Bool.{false_from_ne_true}
use Rattle.std.proofs.lemmas.Bool.Decides.{Decides-int_eq}
use Rattle.std.specs.Ordering.{int_eq}
use Rattle.wp_outside.specs.declared.kinds.Side.{Side}
use Rattle.transfer_frames.specs.declared.frame.Frame.{Frame}
use Rattle.half_model.specs.declared.notes.CopyRecord.{CopyRecord}
use Rattle.half_model.specs.Filling.{words_bytes, fills}
use Rattle.half_model.specs.Group.{Owed, words_in}
use Rattle.half_model.specs.Log.{Mark}
use Rattle.mirror_pools.specs.Meaning.{mirror, mirror_from}
use Rattle.mirror_pools.specs.Sizes.{rounded}
use Rattle.half_model.specs.Story.{made_in}
use Rattle.half_model.specs.StoryLaws.{now}
use Rattle.half_model.proofs.Sound.{sound_now}
use Rattle.mirror_laws.specs.MirrorLaws.{Fills, IsUpTo, told_of, mirror_of, mirror_behind, MirrorAtMessage, MirrorsAreSized}
use Rattle.mirror_laws.proofs.Copying.{copied}
use Rattle.mirror_laws.proofs.Filling.{mirror-append}
use Rattle.mirror_laws.proofs.Fronts.{group_front}
use Rattle.mirror_laws.proofs.Growing.{Sized}
use Rattle.mirror_laws.proofs.Mirroring.{Mirrored, OwedMirror, mirror_filled, own_filled, other_filled, mirrored_now}

-- what is owed at the end of a story, with its mirror
pub owed_now : (side : Side) (story : List Mark) (owed : Owed) (copies : List CopyRecord) (front : List Frame) (rid : ℤ) → IsUpTo side story owed copies front
    → OwedMirror rid (now side story).shm.told owed (mirror_of story rid)
owed_now side story owed copies front rid group =
    let P : Option Owed → Type 0 = λ owes. Mirrored rid (now side story).shm.told owes (mirror rid (made_in story)) in
    subst P group.owes (mirrored_now side rid story group.is_story)

-- the mirrors at its message
pub behind_is : (side : Side) (story : List Mark) (owed : Owed) (copies : List CopyRecord) (front : List Frame) (rid : ℤ) → IsUpTo side story owed copies front
    → mirror_behind story front rid ≡ mirror_filled rid owed (words_bytes (words_in copies)) (mirror_of story rid)
behind_is side story owed copies front rid group =
    let bytes : List ℕ = words_bytes (words_in copies) in
    let silent = (owed_now side story owed copies front rid group).silent in
    mirror-append rid (made_in story) front None
    ∙ ap (λ (fs : List Frame). mirror_from rid fs (mirror_of story rid)) (group_front owed bytes front group.message group.later silent group.is_group.is)
    ∙ mirror-append rid owed.before (fills owed.rid owed.pieces bytes) (mirror_of story rid)

pub own_at_message : (side : Side) (story : List Mark) (owed : Owed) (copies : List CopyRecord) (front : List Frame) → IsUpTo side story owed copies front
    → Fills (told_of side story owed.rid) owed.pieces (words_bytes (words_in copies)) (mirror_of story owed.rid) (mirror_behind story front owed.rid)
own_at_message side story owed copies front group =
    let told : Option ℕ = told_of side story owed.rid in
    let P : Option (List ℕ) → Type 0 = λ m. Fills told owed.pieces (words_bytes (words_in copies)) (mirror_of story owed.rid) m in
    let len = copied side (now side story) owed copies _ (sound_now side story group.is_story) group.owes group.is_group in
    subst P (sym (behind_is side story owed copies front owed.rid group))
    (own_filled owed copies (now side story).shm.told (mirror_of story owed.rid) len (owed_now side story owed copies front owed.rid group))

others_at_message : (side : Side) (story : List Mark) (owed : Owed) (copies : List CopyRecord) (front : List Frame) (rid : ℤ) → IsUpTo side story owed copies front
    → rid ≢ owed.rid → Fills (told_of side story rid) [] [] (mirror_of story rid) (mirror_behind story front rid)
others_at_message side story owed copies front rid group apart =
    let P : Option (List ℕ) → Type 0 = λ m. Fills (told_of side story rid) [] [] (mirror_of story rid) m in
    let no : int_eq owed.rid rid ≡ false = false_from_ne_true (int_eq owed.rid rid) (λ e. apart (sym ((Decides-int_eq owed.rid rid).0 e))) in
    subst P (sym (behind_is side story owed copies front rid group))
    (other_filled rid owed (words_bytes (words_in copies)) (now side story).shm.told (mirror_of story rid) no (owed_now side story owed copies front rid group))

pub mirror_at_message : MirrorAtMessage
mirror_at_message = record { own = own_at_message; others = others_at_message }

-- ---- sizes

as_long : (told : Option ℕ) (m : Option (List ℕ)) → Sized told m → option_map length m ≡ option_map rounded told
as_long None m h = ap (λ (x : Option (List ℕ)). option_map length x) h
as_long (Some size) None h = absurd h
as_long (Some size) (Some bytes) h = ap (λ (n : ℕ). Some n) h

pub mirrors_are_sized : MirrorsAreSized
mirrors_are_sized side story rid logs none =
    let P : Option Owed → Type 0 = λ owes. Mirrored rid (now side story).shm.told owes (mirror rid (made_in story)) in
    as_long (told_of side story rid) (mirror_of story rid) (subst P none (mirrored_now side rid story logs))
