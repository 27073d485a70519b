-- Lines of which the last one changes, and that those of both sides still agree.
use Rattle.std.proofs.Common.{◌≡◌, ◌≢◌, ℕ, suc, ◌<◌, ◌≤◌, cond, eqb, Bool, true, false, List, [], ◌∷◌, ◌++◌, refl, sym, ap, subst, ◌∙◌, arith, append_assoc, inl, inr, ◌⊎◌}
use Rattle.std.proofs.lemmas.Bool.{cases_eq}
use Rattle.std.specs.List.{AllByRecursion}
use Rattle.plain_lists.specs.Fronts.{IsFront}
use Rattle.pair_model.specs.Lines.{Line, Rising, Agrees, written_on, read_on}
use Rattle.pair_model.specs.Steps.{on_last, with_written, with_read}
use Rattle.pair_model.proofs.LastLine.{on_last-push, written_last, read_last, written_before, read_before, read_none}
use Rattle.pair_runs.specs.Linking.{new_line}
use Rattle.pair_runs.specs.Sides.{last_number}
use Rattle.pair_runs.proofs.Ends.{front_same, front_more, front_then}

-- ---- the last line

-- lines with a last one, whose number is above those before
pub record HasLast (rows : List Line) : Type 0 where
  pub earlier : List Line
  pub line : Line
  pub is : rows ≡ earlier ++ line ∷ []
  pub number : last_number rows ≡ line.connection
  pub below : AllByRecursion (λ l. l.connection < line.connection) earlier

last_push : (earlier : List Line) (line : Line) → last_number (earlier ++ line ∷ []) ≡ line.connection
last_push [] line = refl
last_push (one ∷ []) line = refl
last_push (one ∷ next ∷ earlier) line = last_push (next ∷ earlier) line

pub has_last : (least : ℕ) (line : Line) (rows : List Line) → Rising least (line ∷ rows) → HasLast (line ∷ rows) × (least ≤ last_number (line ∷ rows))
has_last least line [] r = (record { earlier = []; line = line; is = refl; number = refl; below = tt }, r.0)
has_last least line (next ∷ rows) r =
    let rest : HasLast (next ∷ rows) × (suc line.connection ≤ last_number (next ∷ rows)) = has_last (suc line.connection) next rows r.1 in
    let h : HasLast (next ∷ rows) = rest.0 in
    (record { earlier = line ∷ h.earlier; line = h.line; is = ap (λ (lines : List Line). line ∷ lines) h.is; number = h.number; below = (omega (arith, rest.1, h.number), h.below) }, omega (arith, r.0, rest.1))

all_less : (lines : List Line) (few many : ℕ) → AllByRecursion (λ l. l.connection < few) lines → few ≤ many → AllByRecursion (λ l. l.connection < many) lines
all_less [] few many h l = tt
all_less (line ∷ lines) few many h l = (omega (arith, h.0, l), all_less lines few many h.1 l)

all_push : (earlier : List Line) (line : Line) (bound : ℕ) → AllByRecursion (λ l. l.connection < bound) earlier → line.connection < bound → AllByRecursion (λ l. l.connection < bound) (earlier ++ line ∷ [])
all_push [] line bound h l = (l, tt)
all_push (one ∷ earlier) line bound h l = (h.0, all_push earlier line bound h.1 l)

-- all numbers are below one above the last
pub all_below : (least : ℕ) (rows : List Line) (bound : ℕ) → Rising least rows → last_number rows < bound → AllByRecursion (λ l. l.connection < bound) rows
all_below least [] bound r l = tt
all_below least (line ∷ rows) bound r l =
    let h : HasLast (line ∷ rows) = (has_last least line rows r).0 in
    subst (λ (lines : List Line). AllByRecursion (λ l. l.connection < bound) lines) (sym h.is)
    (all_push h.earlier h.line bound (all_less h.earlier h.line.connection bound h.below (omega (arith, h.number, l))) (omega (arith, h.number, l)))

-- ---- what changes on the last line

pub last_changed : (change : Line → Line) → ((line : Line) → (change line).connection ≡ line.connection) → (rows : List Line) → last_number (on_last change rows) ≡ last_number rows
last_changed change keeps [] = refl
last_changed change keeps (line ∷ []) = keeps line
last_changed change keeps (line ∷ next ∷ []) = keeps next
last_changed change keeps (line ∷ next ∷ third ∷ rows) = last_changed change keeps (next ∷ third ∷ rows)

pub read_written : (bytes : List ℕ) (c : ℕ) (rows : List Line) → read_on c (on_last (with_written bytes) rows) ≡ read_on c rows
read_written bytes c [] = refl
read_written bytes c (line ∷ []) = refl
read_written bytes c (line ∷ next ∷ rows) = ap (λ (rest : List ℕ). cond (eqb line.connection c) line.read rest) (read_written bytes c (next ∷ rows))

pub written_read : (bytes : List ℕ) (c : ℕ) (rows : List Line) → written_on c (on_last (with_read bytes) rows) ≡ written_on c rows
written_read bytes c [] = refl
written_read bytes c (line ∷ []) = refl
written_read bytes c (line ∷ next ∷ rows) = ap (λ (rest : List ℕ). cond (eqb line.connection c) line.written rest) (written_read bytes c (next ∷ rows))

-- what is written begins what is written with more
front_cond : (b : Bool) (xs ys us vs : List ℕ) → IsFront xs us → IsFront ys vs → IsFront (cond b xs ys) (cond b us vs)
front_cond true xs ys us vs f g = f
front_cond false xs ys us vs f g = g

pub written_grows : (bytes : List ℕ) (c : ℕ) (rows : List Line) → IsFront (written_on c rows) (written_on c (on_last (with_written bytes) rows))
written_grows bytes c [] = front_same []
written_grows bytes c (line ∷ []) = front_cond (eqb line.connection c) line.written [] (line.written ++ bytes) [] (front_more line.written bytes) (front_same [])
written_grows bytes c (line ∷ next ∷ rows) =
    front_cond (eqb line.connection c) line.written (written_on c (next ∷ rows)) line.written (written_on c (on_last (with_written bytes) (next ∷ rows))) (front_same line.written) (written_grows bytes c (next ∷ rows))

-- on the last line itself
pub written_there : (bytes : List ℕ) (rows : List Line) → HasLast rows → written_on (last_number rows) (on_last (with_written bytes) rows) ≡ written_on (last_number rows) rows ++ bytes
written_there bytes rows h =
    let c : ℕ = last_number rows in
    let below : AllByRecursion (λ l. l.connection < c) h.earlier = subst (λ (n : ℕ). AllByRecursion (λ l. l.connection < n) h.earlier) (sym h.number) h.below in
    ap (λ (lines : List Line). written_on c (on_last (with_written bytes) lines)) h.is
    ∙ ap (λ (lines : List Line). written_on c lines) (on_last-push (with_written bytes) h.earlier h.line)
    ∙ written_last h.earlier (with_written bytes h.line) c below (sym h.number)
    ∙ ap (λ (front : List ℕ). front ++ bytes) (sym (ap (λ (lines : List Line). written_on c lines) h.is ∙ written_last h.earlier h.line c below (sym h.number)))

pub read_there : (bytes : List ℕ) (rows : List Line) → HasLast rows → read_on (last_number rows) (on_last (with_read bytes) rows) ≡ read_on (last_number rows) rows ++ bytes
read_there bytes rows h =
    let c : ℕ = last_number rows in
    let below : AllByRecursion (λ l. l.connection < c) h.earlier = subst (λ (n : ℕ). AllByRecursion (λ l. l.connection < n) h.earlier) (sym h.number) h.below in
    ap (λ (lines : List Line). read_on c (on_last (with_read bytes) lines)) h.is
    ∙ ap (λ (lines : List Line). read_on c lines) (on_last-push (with_read bytes) h.earlier h.line)
    ∙ read_last h.earlier (with_read bytes h.line) c below (sym h.number)
    ∙ ap (λ (front : List ℕ). front ++ bytes) (sym (ap (λ (lines : List Line). read_on c lines) h.is ∙ read_last h.earlier h.line c below (sym h.number)))

-- and not elsewhere
read_elsewhere : (bytes : List ℕ) (c : ℕ) (rows : List Line) → HasLast rows → (last_number rows ≡ c → ⊥) → read_on c (on_last (with_read bytes) rows) ≡ read_on c rows
read_elsewhere bytes c rows h apart =
    let other : h.line.connection ≢ c = λ e. apart (h.number ∙ e) in
    ap (λ (lines : List Line). read_on c (on_last (with_read bytes) lines)) h.is
    ∙ ap (λ (lines : List Line). read_on c lines) (on_last-push (with_read bytes) h.earlier h.line)
    ∙ read_before h.earlier (with_read bytes h.line) c other
    ∙ sym (ap (λ (lines : List Line). read_on c lines) h.is ∙ read_before h.earlier h.line c other)

-- ---- both sides

pub swapped : {near far : List Line} → Agrees near far → Agrees far near
swapped a = record { up = a.down; down = a.up }

front_eq : {xs ys us vs : List ℕ} → IsFront xs ys → us ≡ xs → vs ≡ ys → IsFront us vs
front_eq {xs} {ys} {us} {vs} f e d = record { rest = f.rest; is = ap (λ (front : List ℕ). front ++ f.rest) e ∙ f.is ∙ sym d }

-- more is written
pub written_agrees : (bytes : List ℕ) (near far : List Line) → Agrees near far → Agrees (on_last (with_written bytes) near) far
written_agrees bytes near far a = record {
  up = λ c. front_then (a.up c) (written_grows bytes c near);
  down = λ c. front_eq (a.down c) (read_written bytes c near) refl;
}

-- what was written is read
pub read_agrees : (got rest : List ℕ) (near far : List Line) → Rising 1 far → Agrees near far → read_on (last_number far) far ++ (got ++ rest) ≡ written_on (last_number far) near → Agrees near (on_last (with_read got) far)
read_agrees got rest near [] r a e = a
read_agrees got rest near (line ∷ lines) r a e = record {
  up = λ c. by_place c (cases_eq (last_number (line ∷ lines)) c);
  down = λ c. front_eq (a.down c) refl (written_read got c (line ∷ lines));
}
  where
    far : List Line
    far = line ∷ lines

    h : HasLast far
    h = (has_last 1 line lines r).0

    by_place : (c : ℕ) → (last_number far ≡ c) ⊎ (last_number far ≡ c → ⊥) → IsFront (read_on c (on_last (with_read got) far)) (written_on c near)
    by_place c (inl d) =
        subst (λ (n : ℕ). IsFront (read_on n (on_last (with_read got) far)) (written_on n near)) d
        (record { rest = rest; is = ap (λ (front : List ℕ). front ++ rest) (read_there got far h) ∙ append_assoc (read_on (last_number far) far) got rest ∙ e })
    by_place c (inr apart) = front_eq (a.up c) (read_elsewhere got c far h apart) refl

-- a line more, on which nothing is written or read
pub line_agrees : (c : ℕ) (near far : List Line) → AllByRecursion (λ l. l.connection < c) near → read_on c far ≡ [] → Agrees near far → Agrees (near ++ new_line c ∷ []) far
line_agrees c near far below none a = record { up = λ n. up n (cases_eq c n); down = λ n. down n (cases_eq c n) }
  where
    up : (n : ℕ) → (c ≡ n) ⊎ (c ≡ n → ⊥) → IsFront (read_on n far) (written_on n (near ++ new_line c ∷ []))
    up n (inl e) = subst (λ (m : ℕ). IsFront (read_on m far) (written_on m (near ++ new_line c ∷ []))) e (record { rest = written_on c (near ++ new_line c ∷ []); is = ap (λ (front : List ℕ). front ++ written_on c (near ++ new_line c ∷ [])) none })
    up n (inr apart) = front_eq (a.up n) refl (written_before near (new_line c) n apart)

    down : (n : ℕ) → (c ≡ n) ⊎ (c ≡ n → ⊥) → IsFront (read_on n (near ++ new_line c ∷ [])) (written_on n far)
    down n (inl e) = subst (λ (m : ℕ). IsFront (read_on m (near ++ new_line c ∷ [])) (written_on m far)) e (record { rest = written_on c far; is = ap (λ (front : List ℕ). front ++ written_on c far) (read_last near (new_line c) c below refl) })
    down n (inr apart) = front_eq (a.down n) (read_before near (new_line c) n apart) refl

pub new_read : (c : ℕ) (rows : List Line) → AllByRecursion (λ l. l.connection < c) rows → read_on c (rows ++ new_line c ∷ []) ≡ []
new_read c rows below = read_last rows (new_line c) c below refl

pub new_written : (c : ℕ) (rows : List Line) → AllByRecursion (λ l. l.connection < c) rows → written_on c (rows ++ new_line c ∷ []) ≡ []
new_written c rows below = written_last rows (new_line c) c below refl

pub none_read : (c : ℕ) (rows : List Line) → AllByRecursion (λ l. l.connection < c) rows → read_on c rows ≡ []
none_read c rows below = read_none rows c c below (omega arith)
