-- The values of fields, read one by one.
use Rattle.std.proofs.Common.{◌≡◌, ℕ, Bool, true, false, cond, ◌&&◌, List, Option, Some, None, Result, Ok, Err, refl, sym, ap, ◌∙◌}
use Rattle.script_lang.specs.Fields.{one_of, two_of, three_of, four_of}
use Rattle.script_lang.specs.Kinds.{Kind, if_formed, formed}
use Rattle.script_lang.specs.Rows.{ranged, read, both, only, only_of, pair, pair_of}
use Rattle.script_lang.specs.declared.causes.ScriptCause.{ScriptCause}
use Rattle.script_lang.specs.declared.causes.ScriptCause.TheVariants.{Form}

-- a pair of which the second field has its form
both_read : {A B : Type 0} (form : Bool) (first : Result A ScriptCause) (second : Result B ScriptCause)
    → both (cond form first (Err Form)) second ≡ cond (form && true) (both first second) (Err Form)
both_read true first second = refl
both_read false first second = refl

pub pair_read : {A B : Type 0} (first : Kind A) (second : Kind B) (given : List (List ℕ)) (a b : List ℕ) → Some (a, b) ≡ two_of given
    → second.form b ≡ true → both (read first a) (ranged second b) ≡ pair first second given
pair_read first second given a b told form =
    both_read (first.form a) (ranged first a) (ranged second b)
    ∙ ap (λ it. cond (first.form a && it) (both (ranged first a) (ranged second b)) (Err Form)) (sym form)
    ∙ ap (pair_of first second) told
