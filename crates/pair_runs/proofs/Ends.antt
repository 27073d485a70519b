-- Fronts of lists, one after another.
use Rattle.std.proofs.Common.{List, [], ◌++◌, refl, sym, ap, ◌∙◌, append_assoc}
use Rattle.std.proofs.lemmas.List.{append-nil}
use Rattle.plain_lists.specs.Fronts.{IsFront}

pub front_same : {X : Type 0} (xs : List X) → IsFront xs xs
front_same xs = record { rest = []; is = append-nil xs }

pub front_more : {X : Type 0} (xs ys : List X) → IsFront xs (xs ++ ys)
front_more xs ys = record { rest = ys; is = refl }

pub front_then : {X : Type 0} {xs ys zs : List X} → IsFront xs ys → IsFront ys zs → IsFront xs zs
front_then {X} {xs} {ys} {zs} f g = record {
  rest = f.rest ++ g.rest;
  is = sym (append_assoc xs f.rest g.rest) ∙ ap (λ (v : List X). v ++ g.rest) f.is ∙ g.is;
}
