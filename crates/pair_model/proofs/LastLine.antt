-- The last of a side's lines, and those before it.
use Rattle.std.proofs.Common.{◌≡◌, ◌≢◌, ℕ, ◌<◌, ◌≤◌, cond, eqb, List, [], ◌∷◌, ◌++◌, refl, ap, ◌∙◌, arith}
use Rattle.std.proofs.lemmas.Bool.{eq-eqb, ne_eqb, cond-true, cond-false}
use Rattle.std.specs.List.{AllByRecursion}
use Rattle.pair_model.specs.Lines.{Line, written_on, read_on}
use Rattle.pair_model.specs.Steps.{on_last}

pub on_last-push : (change : Line → Line) (lines : List Line) (line : Line) → on_last change (lines ++ line ∷ []) ≡ lines ++ change line ∷ []
on_last-push change [] line = refl
on_last-push change (l ∷ []) line = refl
on_last-push change (l ∷ (k ∷ ls)) line = ap (λ ms. l ∷ ms) (on_last-push change (k ∷ ls) line)

pub written_last : (lines : List Line) (line : Line) (c : ℕ) → AllByRecursion (λ l. l.connection < c) lines → line.connection ≡ c → written_on c (lines ++ line ∷ []) ≡ line.written
written_last [] line c h e = cond-true (eqb line.connection c) line.written [] (eq-eqb line.connection c e)
written_last (l ∷ ls) line c h e = cond-false (eqb l.connection c) l.written (written_on c (ls ++ line ∷ [])) (ne_eqb l.connection c (λ k. omega (arith, h.0))) ∙ written_last ls line c h.1 e

pub read_last : (lines : List Line) (line : Line) (c : ℕ) → AllByRecursion (λ l. l.connection < c) lines → line.connection ≡ c → read_on c (lines ++ line ∷ []) ≡ line.read
read_last [] line c h e = cond-true (eqb line.connection c) line.read [] (eq-eqb line.connection c e)
read_last (l ∷ ls) line c h e = cond-false (eqb l.connection c) l.read (read_on c (ls ++ line ∷ [])) (ne_eqb l.connection c (λ k. omega (arith, h.0))) ∙ read_last ls line c h.1 e

pub written_before : (lines : List Line) (line : Line) (c : ℕ) → line.connection ≢ c → written_on c (lines ++ line ∷ []) ≡ written_on c lines
written_before [] line c apart = cond-false (eqb line.connection c) line.written [] (ne_eqb line.connection c apart)
written_before (l ∷ ls) line c apart = ap (cond (eqb l.connection c) l.written) (written_before ls line c apart)

pub read_before : (lines : List Line) (line : Line) (c : ℕ) → line.connection ≢ c → read_on c (lines ++ line ∷ []) ≡ read_on c lines
read_before [] line c apart = cond-false (eqb line.connection c) line.read [] (ne_eqb line.connection c apart)
read_before (l ∷ ls) line c apart = ap (cond (eqb l.connection c) l.read) (read_before ls line c apart)

-- nothing stands on a connection above them all
pub written_none : (lines : List Line) (bound c : ℕ) → AllByRecursion (λ l. l.connection < bound) lines → bound ≤ c → written_on c lines ≡ []
written_none [] bound c h b = refl
written_none (l ∷ ls) bound c h b = cond-false (eqb l.connection c) l.written (written_on c ls) (ne_eqb l.connection c (λ k. omega (arith, h.0))) ∙ written_none ls bound c h.1 b

pub read_none : (lines : List Line) (bound c : ℕ) → AllByRecursion (λ l. l.connection < bound) lines → bound ≤ c → read_on c lines ≡ []
read_none [] bound c h b = refl
read_none (l ∷ ls) bound c h b = cond-false (eqb l.connection c) l.read (read_on c ls) (ne_eqb l.connection c (λ k. omega (arith, h.0))) ∙ read_none ls bound c h.1 b
