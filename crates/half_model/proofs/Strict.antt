-- What the rules of a story refuse.
use Rattle.std.proofs.Common.{◌≡◌, true, List, [], ◌∷◌, Option, None, sym, ◌∙◌, subst}
use Rattle.std.proofs.lemmas.Bool.{false≢true}
use Rattle.transfer_frames.specs.declared.frame.Frame.{Frame}
use Rattle.transfer_frames.specs.declared.frame.Frame.TheVariants.{Protocol}
use Rattle.half_model.specs.declared.notes.CopyRecord.{CopyRecord}
use Rattle.half_model.specs.Group.{Owed}
use Rattle.half_model.specs.Log.{LogState, MayMake}
use Rattle.half_model.specs.WrongMarks.{WrongTaking, WrongHearing, WrongMaking, OneGroup}

pub wrong_taking : WrongTaking
wrong_taking = record {
  owed = λ s owed message handle segments e h. let f = h.owes_none in absurd cc;
  closed = λ s message handle segments e h. false≢true (sym h.goes_on ∙ e);
}

pub wrong_hearing : WrongHearing
wrong_hearing s frame cause e h = let f = h.accepted in absurd cc

-- where none are owed
lone : (s : LogState) (frames : List Frame) (copies : List CopyRecord) → s.owes ≡ None → MayMake s s.owes frames copies → MayMake s None frames copies
lone s frames copies e h = let P : Option Owed → Type 0 = λ o. MayMake s o frames copies in subst P e h

not_closed : (s : LogState) (frames : List Frame) (copies : List CopyRecord) → s.closed ≡ true → MayMake s None frames copies → ⊥
not_closed s [] copies e h = h
not_closed s (frame ∷ []) copies e h = false≢true (sym h.1.goes_on ∙ e)
not_closed s (frame ∷ next ∷ frames) copies e h = h

not_copied : (s : LogState) (frames : List Frame) (copy : CopyRecord) (copies : List CopyRecord) → MayMake s None frames (copy ∷ copies) → ⊥
not_copied s [] copy copies h = h
not_copied s (frame ∷ []) copy copies h = let e = h.0 in absurd cc
not_copied s (frame ∷ next ∷ frames) copy copies h = h

pub wrong_making : WrongMaking
wrong_making = record {
  closed = λ s frames copies e c h. not_closed s frames copies c (lone s frames copies e h);
  none = λ s copies e h. lone s [] copies e h;
  two = λ s frame next frames copies e h. lone s (frame ∷ next ∷ frames) copies e h;
  copied = λ s frames copy copies e h. not_copied s frames copy copies (lone s frames (copy ∷ copies) e h);
  message = λ s bytes copies e h. false≢true (lone s (Protocol bytes ∷ []) copies e h).1.may;
}

pub one_group : OneGroup
one_group s owed frames others copies e h k =
    let P : List Frame → Option Owed → Type 0 = λ fs o. MayMake s o fs copies in
    let first = subst (P frames) e h in
    let second = subst (P others) e k in
    first.is ∙ sym second.is
