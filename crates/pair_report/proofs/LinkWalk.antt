-- A walk along the lines of a side, one connection after another: what is left of them has all bytes
-- of the connections that come.
use Rattle.std.proofs.Common.{◌≡◌, ℕ, ◌+◌, ◌<◌, List, ◌++◌, refl, sym, ap, ◌∙◌, subst, arith, add-one}
use Rattle.pair_model.specs.Lines.{Line, Rising, written_on, read_on}
use Rattle.pair_audit.specs.Walking.{rows_behind}
use Rattle.pair_audit.proofs.WalkLemmas.{rises_behind, same_behind}
use Rattle.pair_report.specs.Report.{links, link_lines}

-- the lines left behind so many connections
pub record IsLeft (count : ℕ) (rows left : List Line) : Type 0 where
  pub rises : Rising (count + 1) left
  pub written : (c : ℕ) → count < c → written_on c left ≡ written_on c rows
  pub read : (c : ℕ) → count < c → read_on c left ≡ read_on c rows

pub all_left : (rows : List Line) → Rising 1 rows → IsLeft 0 rows rows
all_left rows rises = record { rises = rises; written = λ c later. refl; read = λ c later. refl }

pub left_behind : (count : ℕ) (rows left : List Line) → IsLeft count rows left → IsLeft (count + 1) rows (rows_behind (count + 1) left)
left_behind count rows left is = record {
  rises = subst (λ (n : ℕ). Rising n (rows_behind (count + 1) left)) (sym (add-one (count + 1))) (rises_behind (count + 1) left is.rises);
  written = λ c later. (same_behind (count + 1) c left later).written ∙ is.written c (omega (arith, later));
  read = λ c later. (same_behind (count + 1) c left later).read ∙ is.read c (omega (arith, later));
}

pub links_next : (count : ℕ) (near far : List Line) → links (count + 1) near far ≡ links count near far ++ link_lines (count + 1) near far
links_next count near far =
    ap (λ (n : ℕ). links n near far) (add-one count)
    ∙ ap (λ (n : ℕ). links count near far ++ link_lines n near far) (sym (add-one count))
