-- What lawful records accepted is computed from the bytes that they read.
--
-- The frames that the bytes of a connection are computed to be begin with those that the side has
-- seen there. Where reading did not stop they are just these; where it stopped, further ones may stand
-- behind them, and on no later connection anything was read. So the counted frames of all
-- connections begin with those accepted, and the count of the record takes just these.
use Rattle.std.proofs.Common.{◌≡◌, ◌≢◌, ℕ, zero, suc, ◌+◌, ◌<◌, ◌≤◌, cond, Bool, List, [], ◌∷◌, ◌++◌, length, take, drop, Option, Some, None, refl, sym, ap, ◌∙◌, subst, arith, append_assoc, inl, inr}
use Rattle.std.specs.Prelude.{◌⊎◌}
use Rattle.std.proofs.lemmas.Bool.{cases_order, ne_eqb, eq-eqb}
use Rattle.std.proofs.lemmas.List.{append-nil, take_at, drop_at}
use Rattle.std.proofs.lemmas.List.Elements.{filter-append}
use Rattle.std.specs.List.{AllByRecursion}
use Rattle.transfer_frames.specs.declared.frame.Frame.{Frame}
use Rattle.transfer_frames.specs.Grammar.{IsFrame, role, spelling}
use Rattle.transfer_frames.proofs.FrontLaws.{front-spelled, front-short}
use Rattle.pair_model.specs.Lines.{Line, SideRecord, Stop, Rising, read_on}
use Rattle.pair_model.specs.Rows.{counted, is_counted, spellings, Reads}
use Rattle.pair_model.specs.Wire.{accepted_below, stop_on, Waits, Ends}
use Rattle.pair_model.proofs.Came.{no_read}
use Rattle.pair_model.proofs.Seen.{accepted_past}
use Rattle.half_model.specs.Story.{accepted_in}
use Rattle.side_model.specs.Judging.{AcceptsInTurn}
use Rattle.side_model.specs.Places.{places_in, side_of}
use Rattle.side_model.proofs.Judgings.{accepts_just_those}
use Rattle.pair_audit.proofs.WalkLemmas.{none_below}
use Rattle.pair_report.specs.Heard.{frames_in, counted_on}
use Rattle.pair_report.specs.Laws.{AcceptedIsTold}
use Rattle.pair_report.proofs.FrameRows.{frames_first, frames_none}

-- ---- the frames of one connection

counted_both : (fs gs : List Frame) → counted (fs ++ gs) ≡ counted fs ++ counted gs
counted_both fs gs = filter-append (λ frame. is_counted (role frame)) fs gs

-- frames that are spelled are computed
frames_spelled : (fs : List Frame) (rest : List ℕ) → AllByRecursion IsFrame fs → frames_in (spellings fs ++ rest) ≡ fs ++ frames_in rest
frames_spelled [] rest are = refl
frames_spelled (f ∷ fs) rest are =
    let parts : spellings (f ∷ fs) ++ rest ≡ spelling f ++ (spellings fs ++ rest) = append_assoc (spelling f) (spellings fs) rest in
    let behind : drop (length (spelling f)) (spelling f ++ (spellings fs ++ rest)) ≡ spellings fs ++ rest = drop_at (spelling f) (spellings fs ++ rest) (length (spelling f)) refl in
    ap frames_in parts
    ∙ frames_first (spelling f ++ (spellings fs ++ rest)) f (length (spelling f)) (front-spelled f (spellings fs ++ rest) are.0) refl
    ∙ ap (λ (bytes : List ℕ). f ∷ frames_in bytes) behind
    ∙ ap (λ (gs : List Frame). f ∷ gs) (frames_spelled fs rest are.1)

-- bytes that were read begin with the frames seen
read_frames : (stop : Option ℕ) (read : List ℕ) (seen : List Frame) (reads : Reads stop read seen) → frames_in read ≡ seen ++ frames_in reads.rest
read_frames stop read seen reads = ap frames_in reads.bytes ∙ frames_spelled seen reads.rest reads.frames

-- and are just these where reading did not stop
all_read : (read : List ℕ) (seen : List Frame) → Reads None read seen → Waits None read seen → frames_in read ≡ seen
all_read read seen reads waits =
    read_frames None read seen reads
    ∙ ap (λ (gs : List Frame). seen ++ gs) (frames_none reads.rest (waits reads.rest reads.bytes))
    ∙ append-nil seen

no_bytes : frames_in [] ≡ []
no_bytes = frames_none [] (front-short [] (omega arith))

-- ---- by connection

-- the frames that the bytes of each connection are computed to be
abbrev pub computed : List Line → ℕ → List Frame
computed rows c = frames_in (read_on c rows)

-- up to a connection they begin with those seen, and are just these while reading did not stop
pub record Begins (rows : List Line) (seen : ℕ → List Frame) (stop : Option Stop) (c : ℕ) : Type 0 where
  pub more : List Frame
  pub parts : accepted_below (computed rows) c ≡ accepted_below seen c ++ more
  pub until : (more ≡ []) ⊎ ((it : Stop) × (stop ≡ Some it) × (it.connection < c))

nothing_here : (stop : Option ℕ) (read : List ℕ) (seen : List Frame) → Reads stop read seen → read ≡ [] → counted (frames_in read) ≡ counted seen
nothing_here stop read seen reads none =
    ap (λ (bytes : List ℕ). counted (frames_in bytes)) none ∙ ap counted no_bytes ∙ sym (ap counted (no_read read reads none))

module _ (rows : List Line) (seen : ℕ → List Frame) (stop : Option Stop)
    (reads : (c : ℕ) → Reads (stop_on c stop) (read_on c rows) (seen c))
    (waits : (c : ℕ) → Waits (stop_on c stop) (read_on c rows) (seen c))
    (ends : Ends stop rows) where
  -- where as many were counted as were seen
  begins_same : (c : ℕ) (b : Begins rows seen stop c) → counted (computed rows c) ≡ counted (seen c)
      → b.more ≡ [] → Begins rows seen stop (suc c)
  begins_same c b same none = record {
    more = [];
    parts =
        ap (λ (fs : List Frame). fs ++ counted (computed rows c)) b.parts
        ∙ ap (λ (fs : List Frame). (accepted_below seen c ++ fs) ++ counted (computed rows c)) none
        ∙ ap (λ (fs : List Frame). fs ++ counted (computed rows c)) (append-nil (accepted_below seen c))
        ∙ ap (λ (fs : List Frame). accepted_below seen c ++ fs) same
        ∙ sym (append-nil (accepted_below seen c ++ counted (seen c)));
    until = inl refl;
  }

  -- behind the connection where reading stopped
  begins_past : (c : ℕ) (b : Begins rows seen stop c) (it : Stop) → stop ≡ Some it → it.connection < c → Begins rows seen stop (suc c)
  begins_past c b it is past =
      let none : read_on c rows ≡ [] = (subst (λ (s : Option Stop). Ends s rows) is ends c past).0 in
      let nothing : counted (seen c) ≡ [] = ap counted (no_read (read_on c rows) (reads c) none) in
      let computes : counted (computed rows c) ≡ [] = nothing_here (stop_on c stop) (read_on c rows) (seen c) (reads c) none ∙ nothing in
      record {
        more = b.more;
        parts =
            ap (λ (fs : List Frame). accepted_below (computed rows) c ++ fs) computes
            ∙ append-nil (accepted_below (computed rows) c)
            ∙ b.parts
            ∙ ap (λ (fs : List Frame). fs ++ b.more) (sym (append-nil (accepted_below seen c)))
            ∙ ap (λ (fs : List Frame). (accepted_below seen c ++ fs) ++ b.more) (sym nothing);
        until = inr (it, is, omega (arith, past));
      }

  -- on the connection where reading stopped
  begins_there : (c : ℕ) (b : Begins rows seen stop c) (it : Stop) → stop ≡ Some it → it.connection ≡ c → b.more ≡ [] → Begins rows seen stop (suc c)
  begins_there c b it is here none =
      let rest : List Frame = counted (frames_in (reads c).rest) in
      let computes : counted (computed rows c) ≡ counted (seen c) ++ rest =
      ap counted (read_frames (stop_on c stop) (read_on c rows) (seen c) (reads c)) ∙ counted_both (seen c) (frames_in (reads c).rest) in
      record {
        more = rest;
        parts =
            ap (λ (fs : List Frame). fs ++ counted (computed rows c)) b.parts
            ∙ ap (λ (fs : List Frame). (accepted_below seen c ++ fs) ++ counted (computed rows c)) none
            ∙ ap (λ (fs : List Frame). fs ++ counted (computed rows c)) (append-nil (accepted_below seen c))
            ∙ ap (λ (fs : List Frame). accepted_below seen c ++ fs) computes
            ∙ sym (append_assoc (accepted_below seen c) (counted (seen c)) rest);
        until = inr (it, is, omega (arith, here));
      }

  -- where reading did not stop on a connection
  goes_on : (c : ℕ) → stop_on c stop ≡ None → counted (computed rows c) ≡ counted (seen c)
  goes_on c none =
      ap counted (all_read (read_on c rows) (seen c) (subst (λ (s : Option ℕ). Reads s (read_on c rows) (seen c)) none (reads c))
      (subst (λ (s : Option ℕ). Waits s (read_on c rows) (seen c)) none (waits c)))

  next_begins : (c : ℕ) → Begins rows seen stop c → Begins rows seen stop (suc c)
  next_begins c b = by stop refl
    where
      at : (it : Stop) → stop ≡ Some it
          → (it.connection ≡ c) ⊎ ((it.connection < c) ⊎ (c < it.connection)) → Begins rows seen stop (suc c)
      at it is (inl here) = elim b.until [
        | inl none ↦ begins_there c b it is here none
        | inr (other, same, less) ↦
            let one : other ≡ it = let e : Some other ≡ Some it = sym same ∙ is in cc in
            absurd (omega (arith, less, here, ap (λ (s : Stop). s.connection) one))
      ]
      at it is (inr (inl past)) = begins_past c b it is past
      at it is (inr (inr later)) = elim b.until [
        | inl none ↦
            let apart : it.connection ≢ c = λ same. absurd (omega (arith, later, same)) in
            let goes : stop_on c stop ≡ None =
            ap (stop_on c) is ∙ ap (λ (t : Bool). cond t (Some it.place) None) (ne_eqb it.connection c apart) in
            begins_same c b (goes_on c goes) none
        | inr (other, same, less) ↦
            let one : other ≡ it = let e : Some other ≡ Some it = sym same ∙ is in cc in
            absurd (omega (arith, less, later, ap (λ (s : Stop). s.connection) one))
      ]

      by : (s : Option Stop) → stop ≡ s → Begins rows seen stop (suc c)
      by None is = elim b.until [
        | inl none ↦ begins_same c b (goes_on c (ap (stop_on c) is)) none
        | inr (other, same, less) ↦ absurd (let e : Some other ≡ None = sym same ∙ is in let never : ⊥ = cc in never)
      ]
      by (Some it) is = at it is (cases_order it.connection c)

  pub all_begin : (c : ℕ) → Begins rows seen stop c
  all_begin zero = record { more = []; parts = refl; until = inl refl }
  all_begin (suc c) = next_begins c (all_begin c)

-- ---- by line

-- a number above those of all lines
abbrev above : List Line → ℕ
above [] = 0
above (line ∷ lines) = suc line.connection + above lines

none_yet : (low c : ℕ) (rows : List Line) → Rising low rows → c ≤ low → accepted_below (computed rows) c ≡ []
none_yet low zero rows rises below = refl
none_yet low (suc c) rows rises below =
    let none : read_on c rows ≡ [] = (none_below c low rows rises (omega (arith, below))).read in
    ap (λ (fs : List Frame). fs ++ counted (computed rows c)) (none_yet low c rows rises (omega (arith, below)))
    ∙ ap (λ (bytes : List ℕ). counted (frames_in bytes)) none
    ∙ ap counted no_bytes

-- the first line, and those behind it
first_line : (line : Line) (rows : List Line) (more : ℕ) → Rising (suc line.connection) rows
    → accepted_below (computed (line ∷ rows)) (suc line.connection + more)
    ≡ counted (frames_in line.read) ++ accepted_below (computed rows) (suc line.connection + more)
first_line line rows zero rises =
    let c : ℕ = line.connection in
    let all : Rising c (line ∷ rows) = (omega arith, rises) in
    let end : suc c + zero ≡ suc c = omega arith in
    let here : read_on c (line ∷ rows) ≡ line.read = ap (λ (t : Bool). cond t line.read (read_on c rows)) (eq-eqb c c refl) in
    ap (accepted_below (computed (line ∷ rows))) end
    ∙ ap (λ (fs : List Frame). fs ++ counted (computed (line ∷ rows) c)) (none_yet c c (line ∷ rows) all (omega arith))
    ∙ ap (λ (bytes : List ℕ). counted (frames_in bytes)) here
    ∙ sym (append-nil (counted (frames_in line.read)))
    ∙ ap (λ (fs : List Frame). counted (frames_in line.read) ++ fs) (sym (ap (accepted_below (computed rows)) end ∙ none_yet (suc c) (suc c) rows rises (omega arith)))
first_line line rows (suc more) rises =
    let c : ℕ = suc line.connection + more in
    let end : suc line.connection + suc more ≡ suc c = omega arith in
    let apart : line.connection ≢ c = λ same. absurd (omega (arith, same)) in
    let other : read_on c (line ∷ rows) ≡ read_on c rows = ap (λ (t : Bool). cond t line.read (read_on c rows)) (ne_eqb line.connection c apart) in
    ap (accepted_below (computed (line ∷ rows))) end
    ∙ ap (λ (fs : List Frame). fs ++ counted (computed (line ∷ rows) c)) (first_line line rows more rises)
    ∙ ap (λ (bytes : List ℕ). (counted (frames_in line.read) ++ accepted_below (computed rows) c) ++ counted (frames_in bytes)) other
    ∙ append_assoc (counted (frames_in line.read)) (accepted_below (computed rows) c) (counted (computed rows c))
    ∙ ap (λ (n : ℕ). counted (frames_in line.read) ++ accepted_below (computed rows) n) (sym end)

-- line by line they are those by connection
by_lines : (low : ℕ) (rows : List Line) (more : ℕ) → Rising low rows → accepted_below (computed rows) (above rows + more) ≡ counted_on rows
by_lines low [] more rises = none_yet (0 + more) (0 + more) [] tt (omega arith)
by_lines low (line ∷ rows) more rises =
    let end : (suc line.connection + above rows) + more ≡ suc line.connection + (above rows + more) = omega arith in
    let later : suc line.connection + (above rows + more) ≡ above rows + (suc line.connection + more) = omega arith in
    ap (accepted_below (computed (line ∷ rows))) end
    ∙ first_line line rows (above rows + more) rises.1
    ∙ ap (λ (n : ℕ). counted (frames_in line.read) ++ accepted_below (computed rows) n) later
    ∙ ap (λ (fs : List Frame). counted (frames_in line.read) ++ fs) (by_lines (suc line.connection) rows (suc line.connection + more) rises.1)

-- ---- all of it

pub accepted_is_told : AcceptedIsTold
accepted_is_told side token book fault law =
    let record_of : SideRecord = side_of book.trail (places_in law.story) law.stop in
    let turn : AcceptsInTurn token record_of (accepted_in law.story) = accepts_just_those side token book fault law in
    let rows : List Line = book.trail.lines.rows in
    let end : ℕ = above rows + turn.bound in
    let begins : Begins rows turn.seen law.stop end = all_begin rows turn.seen law.stop turn.sees.reads turn.waits law.wire.ends end in
    let same : accepted_below turn.seen end ≡ accepted_in law.story =
    ap (accepted_below turn.seen) (let e : end ≡ turn.bound + above rows = omega arith in e)
    ∙ accepted_past turn.sees (above rows)
    ∙ sym turn.accepted_are in
    let parts : counted_on rows ≡ accepted_in law.story ++ begins.more =
    sym (by_lines 1 rows turn.bound law.wire.numbers) ∙ begins.parts ∙ ap (λ (fs : List Frame). fs ++ begins.more) same in
    ap (take book.trail.accepted) parts
    ∙ take_at (accepted_in law.story) begins.more book.trail.accepted (sym law.tells.accepted)
