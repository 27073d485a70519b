-- Two sides of a link as their records tell of them, where both agree on the bytes of the link;
-- proxies, their records and the link are this project's own.
use Rattle.std.specs.Prelude.{ℕ, List, Option}
use Rattle.wp_outside.specs.declared.kinds.Side.{Side}
use Rattle.wp_outside.specs.declared.kinds.Side.TheVariants.{Near, Far}
use Rattle.half_model.specs.Sides.{other_side}
use Rattle.pair_model.specs.Lines.{Line, Agrees, SideRecord}
use Rattle.side_model.specs.declared.fault.ProxyFault.{ProxyFault}
use Rattle.side_model.specs.Books.{Book}
use Rattle.side_model.specs.Places.{places_in, side_of}
use Rattle.side_model.specs.Records.{Law}

-- one side: the session's token, its records, and for what it failed, if it did
pub record OneSide : Type 0 where
  pub token : List ℕ
  pub book : Book
  pub fault : Option ProxyFault

-- its records are what those of a side are at any moment
abbrev pub IsLawful : Side → OneSide → Type 0
IsLawful side it = Law side it.token it.book it.fault

abbrev pub lines_of : OneSide → List Line
lines_of it = it.book.trail.lines.rows

-- the record as the laws of the link read it
abbrev pub link_of : (side : Side) (it : OneSide) → IsLawful side it → SideRecord
link_of side it law = side_of it.book.trail (places_in law.story) law.stop

-- Two sides whose records are lawful, and whose lines agree: on each connection, both ways, the
-- bytes read begin the bytes written.
pub record Joined (one_side other_side : Side) (one other : OneSide) : Type 0 where
  pub one_law : IsLawful one_side one
  pub other_law : IsLawful other_side other
  pub agrees : Agrees (lines_of one) (lines_of other)

-- one of them is a near side and the other a far one
abbrev pub IsPair : OneSide → OneSide → Type 0
IsPair near far = Joined Near Far near far

-- one direction: what the one sends, the other hears
abbrev pub Sends : Side → OneSide → OneSide → Type 0
Sends side sender hearer = Joined side (other_side side) sender hearer
