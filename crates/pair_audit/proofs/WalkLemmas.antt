-- A walk along the lines of two sides, one connection after another.
--
-- What is left of both sides is audited in place of the whole: an answer for what is left is one for
-- the whole, as long as all that was passed agrees. Up to a number below which no line is left, a
-- connection has no bytes in what is left; so the first difference of what is left stands behind it,
-- and what is audited before that difference agrees. A side that has no line where the other one has
-- its next is passed without a step, since a list of rising numbers tells by its first line alone
-- whether it has the connection.
use Rattle.std.proofs.Common.{◌≡◌, ◌≢◌, ℕ, suc, ◌+◌, ◌<◌, ◌≤◌, cond, Bool, true, false, min, List, [], ◌∷◌, length, take, map, get_or, Some, None, Result, Ok, Err, MatchResult, refl, sym, ap, ◌∙◌, subst, arith, inl, inr}
use Rattle.std.proofs.lemmas.Bool.{cases_order, eqb-true, eqb-false, eq-eqb, ne_eqb}
use Rattle.std.specs.Prelude.{slice_get, ◌⊎◌, ◌==◌}
use Rattle.plain_lists.specs.Fronts.{IsFront}
use Rattle.plain_lists.proofs.FrontLemmas.{IsFront_nil}
use Rattle.wp_outside.specs.declared.kinds.Direction.{Direction}
use Rattle.wp_outside.specs.declared.kinds.Direction.TheVariants.{Up, Down}
use Rattle.pair_model.specs.Lines.{Line, Agrees, Rising, written_on, read_on}
use Rattle.pair_laws.specs.declared.differs.Differs.{Differs}
use Rattle.pair_laws.specs.Differences.{written_to, read_from, AgreesOn, GoesBefore, IsEarlier, FirstDiffers}
use Rattle.trail_records.specs.declared.lines.LineRecord.{LineRecord}
use Rattle.trail_records.specs.Rows.{line_of}
use Rattle.pair_audit.specs.Lanes.{DiffersOn}
use Rattle.pair_audit.specs.Walking.{first_of, rows_behind}

-- ---- the lines of one side

pub rising_from : (low high : ℕ) (rows : List Line) → low ≤ high → Rising high rows → Rising low rows
rising_from low high [] l r = tt
rising_from low high (row ∷ rows) l r = (omega (arith, r.0), r.1)

-- a side has no bytes on a connection
pub record NoBytes (c : ℕ) (rows : List Line) : Type 0 where
  pub written : written_on c rows ≡ []
  pub read : read_on c rows ≡ []

-- of two branches the second, at another number
other_branch : {X : Type 0} (a b : ℕ) (x y : X) → a ≢ b → cond (a == b) x y ≡ y
other_branch {X} a b x y apart = ap (λ (t : Bool). cond t x y) (ne_eqb a b apart)

first_branch : {X : Type 0} (a b : ℕ) (x y : X) → a ≡ b → cond (a == b) x y ≡ x
first_branch {X} a b x y same = ap (λ (t : Bool). cond t x y) (eq-eqb a b same)

pub none_below : (c least : ℕ) (rows : List Line) → Rising least rows → c < least → NoBytes c rows
none_below c least [] r l = record { written = refl; read = refl }
none_below c least (row ∷ rows) r l =
    let apart : row.connection ≢ c = λ same. absurd (omega (arith, r.0, same)) in
    let rest = none_below c (suc row.connection) rows r.1 (omega (arith, r.0)) in
    record {
      written = other_branch row.connection c row.written (written_on c rows) apart ∙ rest.written;
      read = other_branch row.connection c row.read (read_on c rows) apart ∙ rest.read;
    }

-- a connection at which the first line does not stand, or that has no line behind it
pub none_at : (c : ℕ) (rows : List LineRecord) → length rows < 1 → NoBytes c (map line_of rows)
none_at c [] l = record { written = refl; read = refl }
none_at c (row ∷ rows) l = absurd (omega (arith, l))

pub none_there : (c : ℕ) (rows : List LineRecord) (first : LineRecord) → 1 ≤ length rows → first ≡ get_or rows 0 first → first.connection ≢ c
    → Rising c (map line_of rows) → NoBytes c (map line_of rows)
none_there c [] first l is apart r = absurd (omega (arith, l))
none_there c (row ∷ rows) first l is apart r =
    let other : row.connection ≢ c = λ same. apart (ap (λ (it : LineRecord). it.connection) is ∙ same) in
    let rest = none_below c (suc row.connection) (map line_of rows) r.1 (omega (arith, r.0)) in
    record {
      written = other_branch row.connection c row.written.items (written_on c (map line_of rows)) other ∙ rest.written;
      read = other_branch row.connection c row.read (read_on c (map line_of rows)) other ∙ rest.read;
    }

pub rises_behind : (c : ℕ) (rows : List Line) → Rising c rows → Rising (suc c) (rows_behind c rows)
rises_behind c [] r = tt
rises_behind c (row ∷ rows) r = go (row.connection == c) refl
  where
    go : (b : Bool) → (row.connection == c) ≡ b → Rising (suc c) (cond b rows (row ∷ rows))
    go true is = subst (λ (n : ℕ). Rising (suc n) rows) (eqb-true row.connection c is) r.1
    go false is =
        let apart : row.connection ≢ c = eqb-false row.connection c is in
        let behind : suc c ≤ row.connection = omega (arith, r.0) in
        (behind, r.1)

-- the lines behind a connection have all bytes of those behind it
pub record SameBehind (c other : ℕ) (rows : List Line) : Type 0 where
  pub written : written_on other (rows_behind c rows) ≡ written_on other rows
  pub read : read_on other (rows_behind c rows) ≡ read_on other rows

pub same_behind : (c other : ℕ) (rows : List Line) → c < other → SameBehind c other rows
same_behind c other [] l = record { written = refl; read = refl }
same_behind c other (row ∷ rows) l = record { written = go (row.connection == c) refl; read = goes (row.connection == c) refl }
  where
    apart : (row.connection == c) ≡ true → row.connection ≢ other
    apart is same = let e : row.connection ≡ c = eqb-true row.connection c is in absurd (omega (arith, e, same, l))

    go : (b : Bool) → (row.connection == c) ≡ b → written_on other (cond b rows (row ∷ rows)) ≡ written_on other (row ∷ rows)
    go true is = sym (other_branch row.connection other row.written (written_on other rows) (apart is))
    go false is = refl

    goes : (b : Bool) → (row.connection == c) ≡ b → read_on other (cond b rows (row ∷ rows)) ≡ read_on other (row ∷ rows)
    goes true is = sym (other_branch row.connection other row.read (read_on other rows) (apart is))
    goes false is = refl

length-behind : (c : ℕ) (rows : List Line) → length (rows_behind c rows) ≤ length rows
length-behind c [] = omega arith
length-behind c (row ∷ rows) = go (row.connection == c)
  where
    go : (b : Bool) → length (cond b rows (row ∷ rows)) ≤ length (row ∷ rows)
    go true = omega arith
    go false = omega arith

-- ---- the next connection

-- a connection that is the first of both
pub record IsNext (c : ℕ) (near far : List Line) : Type 0 where
  pub near_rises : Rising c near
  pub far_rises : Rising c far
  pub fewer : length (rows_behind c near) + length (rows_behind c far) < length near + length far

pub next_of : (c : ℕ) (near far : List Line) → Rising 0 near → Rising 0 far → Some c ≡ first_of near far → IsNext c near far
next_of c [] [] n f is = absurd cc
next_of c [] (there ∷ far) n f is =
    let same : there.connection ≡ c = cc in
    let gone : rows_behind c (there ∷ far) ≡ far = first_branch there.connection c far (there ∷ far) same in
    record { near_rises = tt; far_rises = (omega (arith, same), f.1); fewer = omega (arith, ap length gone) }
next_of c (here ∷ near) [] n f is =
    let same : here.connection ≡ c = cc in
    let gone : rows_behind c (here ∷ near) ≡ near = first_branch here.connection c near (here ∷ near) same in
    record { near_rises = (omega (arith, same), n.1); far_rises = tt; fewer = omega (arith, ap length gone) }
next_of c (here ∷ near) (there ∷ far) n f is =
    let least : min here.connection there.connection ≡ c = cc in
    record { near_rises = (omega (arith, least), n.1); far_rises = (omega (arith, least), f.1); fewer = go (cases_order here.connection there.connection) }
  where
    fewer_near : here.connection ≡ c → length (rows_behind c (here ∷ near)) + length (rows_behind c (there ∷ far)) < length (here ∷ near) + length (there ∷ far)
    fewer_near same =
        omega (arith, ap length (first_branch here.connection c near (here ∷ near) same), length-behind c (there ∷ far))

    fewer_far : there.connection ≡ c → length (rows_behind c (here ∷ near)) + length (rows_behind c (there ∷ far)) < length (here ∷ near) + length (there ∷ far)
    fewer_far same =
        omega (arith, ap length (first_branch there.connection c far (there ∷ far) same), length-behind c (here ∷ near))

    go : (here.connection ≡ there.connection) ⊎ ((here.connection < there.connection) ⊎ (there.connection < here.connection))
        → length (rows_behind c (here ∷ near)) + length (rows_behind c (there ∷ far)) < length (here ∷ near) + length (there ∷ far)
    go (inl same) = let least : min here.connection there.connection ≡ c = cc in fewer_near (omega arith)
    go (inr (inl less)) = let least : min here.connection there.connection ≡ c = cc in fewer_near (omega arith)
    go (inr (inr less)) = let least : min here.connection there.connection ≡ c = cc in fewer_far (omega arith)

pub none_left : (near far : List Line) → None ≡ first_of near far → Agrees near far
none_left [] [] is = record { up = λ c. IsFront_nil []; down = λ c. IsFront_nil [] }
none_left [] (there ∷ far) is = absurd cc
none_left (here ∷ near) [] is = absurd cc
none_left (here ∷ near) (there ∷ far) is = absurd cc

-- ---- one direction of a connection

nothing_read : (direction : Direction) (c : ℕ) (near far : List Line) → NoBytes c near → NoBytes c far → read_from direction c near far ≡ []
nothing_read Up c near far n f = f.read
nothing_read Down c near far n f = n.read

read_behind : (direction : Direction) (c other : ℕ) (near far : List Line) → c < other
    → read_from direction other (rows_behind c near) (rows_behind c far) ≡ read_from direction other near far
read_behind Up c other near far l = (same_behind c other far l).read
read_behind Down c other near far l = (same_behind c other near l).read

written_behind : (direction : Direction) (c other : ℕ) (near far : List Line) → c < other
    → written_to direction other (rows_behind c near) (rows_behind c far) ≡ written_to direction other near far
written_behind Up c other near far l = (same_behind c other near l).written
written_behind Down c other near far l = (same_behind c other far l).written

agrees_below : (direction : Direction) (c least : ℕ) (near far : List Line) → Rising least near → Rising least far → c < least → AgreesOn direction c near far
agrees_below direction c least near far n f l =
    subst (λ (xs : List ℕ). IsFront xs (written_to direction c near far))
    (sym (nothing_read direction c near far (none_below c least near n l) (none_below c least far f l)))
    (IsFront_nil (written_to direction c near far))

agrees_behind : (direction : Direction) (c other : ℕ) (near far : List Line) → c < other
    → AgreesOn direction other (rows_behind c near) (rows_behind c far) → AgreesOn direction other near far
agrees_behind direction c other near far l a =
    subst (λ (xs : List ℕ). IsFront xs (written_to direction other near far)) (read_behind direction c other near far l)
    (subst (λ (ys : List ℕ). IsFront (read_from direction other (rows_behind c near) (rows_behind c far)) ys) (written_behind direction c other near far l) a)

-- ---- a step

-- the next connection agrees
pub record Passes (c : ℕ) (near far : List Line) : Type 0 where
  pub next : IsNext c near far
  pub up : AgreesOn Up c near far
  pub down : AgreesOn Down c near far

agrees_at : {c : ℕ} {near far : List Line} → Passes c near far → (direction : Direction) → AgreesOn direction c near far
agrees_at p Up = p.up
agrees_at p Down = p.down

-- so all up to it does
agrees_up_to : {c : ℕ} {near far : List Line} → Passes c near far → (direction : Direction) (other : ℕ) → other ≤ c → AgreesOn direction other near far
agrees_up_to {c} {near} {far} p direction other l = elim (cases_order other c) [
  | inl same ↦ subst (λ (n : ℕ). AgreesOn direction n near far) (sym same) (agrees_at p direction)
  | inr (inl less) ↦ agrees_below direction other c near far p.next.near_rises p.next.far_rises less
  | inr (inr more) ↦ absurd (omega arith)
]

agrees_all : {c : ℕ} {near far : List Line} → Passes c near far → (direction : Direction) (other : ℕ)
    → AgreesOn direction other (rows_behind c near) (rows_behind c far) → AgreesOn direction other near far
agrees_all {c} {near} {far} p direction other a = elim (cases_order other c) [
  | inl same ↦ agrees_up_to p direction other (omega arith)
  | inr (inl less) ↦ agrees_up_to p direction other (omega arith)
  | inr (inr more) ↦ agrees_behind direction c other near far more a
]

-- a difference in what is left is behind it
is_behind : {c : ℕ} {near far : List Line} → Passes c near far → (it : Differs) → FirstDiffers (rows_behind c near) (rows_behind c far) it → c < it.connection
is_behind {c} {near} {far} p it d = elim (cases_order it.connection c) [
  | inl same ↦ absurd (there (omega arith))
  | inr (inl less) ↦ absurd (there (omega arith))
  | inr (inr more) ↦ more
]
  where
    there : it.connection < suc c → ⊥
    there l =
        let near_rises = rises_behind c near p.next.near_rises in
        let far_rises = rises_behind c far p.next.far_rises in
        let none = nothing_read it.direction it.connection (rows_behind c near) (rows_behind c far)
        (none_below it.connection (suc c) (rows_behind c near) near_rises l) (none_below it.connection (suc c) (rows_behind c far) far_rises l) in
        let found : slice_get {X = ℕ} [] it.place ≡ Some it.read = ap (λ (xs : List ℕ). slice_get xs it.place) (sym none) ∙ d.reads in
        cc

abbrev pub Audits : List Line → List Line → Result Unit Differs → Type 0
Audits near far result = MatchResult result (λ _. Agrees near far) (λ it. FirstDiffers near far it)

audits_behind : {c : ℕ} {near far : List Line} → Passes c near far → (result : Result Unit Differs)
    → Audits (rows_behind c near) (rows_behind c far) result → Audits near far result
audits_behind {c} {near} {far} p (Ok done) a =
    record { up = λ other. agrees_all p Up other (a.up other); down = λ other. agrees_all p Down other (a.down other) }
audits_behind {c} {near} {far} p (Err it) d =
    let behind = is_behind p it d in
    let read = read_behind it.direction c it.connection near far behind in
    let written = written_behind it.direction c it.connection near far behind in
    record {
      earlier = λ other direction before. agrees_all p direction other (d.earlier other direction before);
      same = ap (take it.place) (sym read) ∙ d.same ∙ ap (take it.place) written;
      reads = ap (λ (xs : List ℕ). slice_get xs it.place) (sym read) ∙ d.reads;
      wrote = ap (λ (xs : List ℕ). slice_get xs it.place) (sym written) ∙ d.wrote;
      differs = d.differs;
    }

-- ---- a difference at the next connection

differs_at : {c : ℕ} {near far : List Line} {it : Differs} (direction : Direction) → IsNext c near far
    → ((before : Direction) → GoesBefore before direction → AgreesOn before c near far)
    → DiffersOn c direction (written_to direction c near far) (read_from direction c near far) it → FirstDiffers near far it
differs_at {c} {near} {far} {it} direction next before d =
    let at : DiffersOn it.connection it.direction (written_to it.direction it.connection near far) (read_from it.direction it.connection near far) it =
    subst (λ (n : ℕ). DiffersOn n it.direction (written_to it.direction n near far) (read_from it.direction n near far) it) (sym d.connection_is)
    (subst (λ (e : Direction). DiffersOn c e (written_to e c near far) (read_from e c near far) it) (sym d.direction_is) d) in
    record {
      earlier = λ other e earlier. go other e earlier;
      same = at.same;
      reads = at.reads;
      wrote = at.wrote;
      differs = at.differs;
    }
  where
    go : (other : ℕ) (e : Direction) → IsEarlier other e it → AgreesOn e other near far
    go other e (inl less) = agrees_below e other c near far next.near_rises next.far_rises (omega (arith, less, d.connection_is))
    go other e (inr (same, goes)) =
        subst (λ (n : ℕ). AgreesOn e n near far) (sym (same ∙ d.connection_is))
        (before e (subst (λ (f : Direction). GoesBefore e f) d.direction_is goes))

pub up_differs : {c : ℕ} {near far : List Line} {it : Differs} → IsNext c near far → DiffersOn c Up (written_on c near) (read_on c far) it → FirstDiffers near far it
up_differs {c} {near} {far} {it} next d = differs_at Up next go d
  where
    go : (before : Direction) → GoesBefore before Up → AgreesOn before c near far
    go Up h = absurd h
    go Down h = absurd h

pub down_differs : {c : ℕ} {near far : List Line} {it : Differs} → IsNext c near far → AgreesOn Up c near far
    → DiffersOn c Down (written_on c far) (read_on c near) it → FirstDiffers near far it
down_differs {c} {near} {far} {it} next up d = differs_at Down next go d
  where
    go : (before : Direction) → GoesBefore before Down → AgreesOn before c near far
    go Up h = up
    go Down h = absurd h

-- ---- the walk

-- what is left of both sides
pub record IsLeft (near far near_left far_left : List Line) : Type 0 where
  pub near_rises : Rising 0 near_left
  pub far_rises : Rising 0 far_left
  pub audits : (result : Result Unit Differs) → Audits near_left far_left result → Audits near far result

pub all_left : (near far : List Line) → Rising 1 near → Rising 1 far → IsLeft near far near far
all_left near far n f = record {
  near_rises = rising_from 0 1 near (omega arith) n;
  far_rises = rising_from 0 1 far (omega arith) f;
  audits = λ result a. a;
}

pub less_left : {near far near_left far_left : List Line} {c : ℕ} → IsLeft near far near_left far_left → Passes c near_left far_left
    → IsLeft near far (rows_behind c near_left) (rows_behind c far_left)
less_left {near} {far} {near_left} {far_left} {c} left p = record {
  near_rises = rising_from 0 (suc c) (rows_behind c near_left) (omega arith) (rises_behind c near_left p.next.near_rises);
  far_rises = rising_from 0 (suc c) (rows_behind c far_left) (omega arith) (rises_behind c far_left p.next.far_rises);
  audits = λ result a. left.audits result (audits_behind p result a);
}

-- ---- the walk, with the lanes as they were split off

left_next : {near far near_left far_left : List Line} {c : ℕ} → IsLeft near far near_left far_left → Some c ≡ first_of near_left far_left → IsNext c near_left far_left
left_next {near} {far} {near_left} {far_left} {c} left is = next_of c near_left far_left left.near_rises left.far_rises is

pub differs_up : {near far near_left far_left : List Line} {c : ℕ} {written read : List ℕ} {it : Differs}
    → IsLeft near far near_left far_left → Some c ≡ first_of near_left far_left
    → written ≡ written_on c near_left → read ≡ read_on c far_left
    → DiffersOn c Up written read it → FirstDiffers near far it
differs_up {near} {far} {near_left} {far_left} {c} {written} {read} {it} left is w r d =
    let there : DiffersOn c Up (written_on c near_left) (read_on c far_left) it =
    subst (λ (xs : List ℕ). DiffersOn c Up xs (read_on c far_left) it) w (subst (λ (xs : List ℕ). DiffersOn c Up written xs it) r d) in
    left.audits (Err it) (up_differs (left_next left is) there)

front_as : {read written read' written' : List ℕ} → read ≡ read' → written ≡ written' → IsFront read written → IsFront read' written'
front_as {read} {written} {read'} {written'} r w f =
    subst (λ (xs : List ℕ). IsFront xs written') r (subst (λ (xs : List ℕ). IsFront read xs) w f)

pub differs_down : {near far near_left far_left : List Line} {c : ℕ} {sent came written read : List ℕ} {it : Differs}
    → IsLeft near far near_left far_left → Some c ≡ first_of near_left far_left
    → sent ≡ written_on c near_left → came ≡ read_on c far_left → IsFront came sent
    → written ≡ written_on c far_left → read ≡ read_on c near_left
    → DiffersOn c Down written read it → FirstDiffers near far it
differs_down {near} {far} {near_left} {far_left} {c} {sent} {came} {written} {read} {it} left is s e up w r d =
    let there : DiffersOn c Down (written_on c far_left) (read_on c near_left) it =
    subst (λ (xs : List ℕ). DiffersOn c Down xs (read_on c near_left) it) w (subst (λ (xs : List ℕ). DiffersOn c Down written xs it) r d) in
    left.audits (Err it) (down_differs (left_next left is) (front_as e s up) there)

pub both_agree : {near far near_left far_left near_behind far_behind : List Line} {c : ℕ} {sent came written read : List ℕ}
    → IsLeft near far near_left far_left → Some c ≡ first_of near_left far_left
    → sent ≡ written_on c near_left → came ≡ read_on c far_left → IsFront came sent
    → written ≡ written_on c far_left → read ≡ read_on c near_left → IsFront read written
    → near_behind ≡ rows_behind c near_left → far_behind ≡ rows_behind c far_left
    → IsLeft near far near_behind far_behind
both_agree {near} {far} {near_left} {far_left} {near_behind} {far_behind} {c} left is s e up w r down n f =
    subst (λ (rows : List Line). IsLeft near far rows far_behind) (sym n)
    (subst (λ (rows : List Line). IsLeft near far (rows_behind c near_left) rows) (sym f)
    (less_left left (record { next = left_next left is; up = front_as e s up; down = front_as r w down })))
