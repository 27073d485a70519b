-- The lines of a proxy's records rise, and what is said of the lines lent is said of them.
use Rattle.std.proofs.Common.{◌≡◌, List, sym, ap, subst}
use Rattle.pair_model.specs.Lines.{Line, Rising}
use Rattle.side_model.specs.Books.{TrailRecord}
use Rattle.side_model.specs.Trails.{TrailState, Keeps}
use Rattle.trail_records.specs.declared.trail.TrailRecord as plain
use Rattle.trail_records.specs.Noting.{trail_of}
use Rattle.pair_audit.specs.Trails.{rows_of}

pub rows_are : (lent : plain.TrailRecord) (trail : TrailState) → trail_of lent ≡ trail.book.trail → lent.lines.rows ≡ rows_of trail
rows_are lent trail is = ap (λ (record_of : TrailRecord). record_of.lines.rows) is

pub rows_rise : (lent : plain.TrailRecord) (trail : TrailState) → trail_of lent ≡ trail.book.trail → Keeps trail → Rising 1 lent.lines.rows
rows_rise lent trail is keeps = subst (λ (rows : List Line). Rising 1 rows) (sym (rows_are lent trail is)) keeps.law.wire.numbers

-- what is said of both sides' lines lent
pub said_of : (P : List Line → List Line → Type 0) (near far : plain.TrailRecord) (near_trail far_trail : TrailState)
    → trail_of near ≡ near_trail.book.trail → trail_of far ≡ far_trail.book.trail
    → P near.lines.rows far.lines.rows → P (rows_of near_trail) (rows_of far_trail)
said_of P near far near_trail far_trail n f p =
    subst (λ (rows : List Line). P rows (rows_of far_trail)) (rows_are near near_trail n)
    (subst (λ (rows : List Line). P near.lines.rows rows) (rows_are far far_trail f) p)
