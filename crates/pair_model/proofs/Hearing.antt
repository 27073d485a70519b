-- What is heard of one connection, frame by frame, and of one connection after another.
use Rattle.std.proofs.Common.{◌≡◌, ℕ, ◌+◌, ◌-◌, ◌<◌, ◌≤◌, suc, List, [], ◌∷◌, ◌++◌, Some, None, Ok, Err, max, drop, take, length, map, get_or, refl, sym, ap, subst, ◌∙◌, arith, append_assoc, length-append, length-drop, length-take, inl, inr}
use Rattle.std.proofs.lemmas.Bool.{cases_eq}
use Rattle.std.proofs.lemmas.List.{append-nil, take-append-drop, map_more, drop_more, take_all}
use Rattle.std.proofs.lemmas.List.Elements.{filter-append}
use Rattle.std.specs.List.{AllByRecursion}
use Rattle.transfer_frames.specs.declared.frame.Frame.{Frame}
use Rattle.transfer_frames.specs.declared.cause.FrameCause.{FrameCause}
use Rattle.transfer_frames.specs.Grammar.{role, IsFrame, spelling}
use Rattle.transfer_frames.specs.Front.{front, Takes}
use Rattle.transfer_frames.specs.Laws.{NoFrame}
use Rattle.transfer_frames.proofs.FrontLaws.{front-spelled}
use Rattle.pair_model.specs.declared.plain.PlainLine.{PlainLine}
use Rattle.pair_model.specs.Lines.{Line, read_on, Rising}
use Rattle.pair_model.specs.Rows.{spellings, counted, told, is_counted, count_in, Reads}
use Rattle.pair_model.specs.Wire.{accepted_below, told_below, Sees}
use Rattle.pair_model.specs.Plain.{line_of, HearsLine, Hears, side_with}
use Rattle.pair_model.proofs.Passing.{spellings_push}
use Rattle.pair_model.proofs.Rows.{spelling_long}
use Rattle.pair_model.proofs.Growing.{each_push, told_push}
use Rattle.pair_model.proofs.LastLine.{read_last, read_before, read_none}
use Rattle.pair_model.proofs.Seen.{accepted_past, told_past}
use Rattle.pair_model.proofs.Seeing.{seen_with, with_here, with_other, accepted_with, told_with, same_reads}

-- ---- one connection

-- the frames seen so far, and the bytes behind them
pub record Hearing (read rest : List ℕ) (frames : List Frame) (acknowledged : ℕ) (more : List Frame) (most : ℕ) : Type 0 where
  pub seen : List Frame
  pub are_frames : AllByRecursion IsFrame seen
  pub bytes : read ≡ spellings seen ++ rest
  pub frames_are : more ≡ frames ++ counted seen
  pub most_is : most ≡ max acknowledged (told seen)

pub hears_first : (read : List ℕ) (frames : List Frame) (acknowledged : ℕ) → Hearing read read frames acknowledged frames acknowledged
hears_first read frames acknowledged = record { seen = []; are_frames = tt; bytes = refl; frames_are = sym (append-nil frames); most_is = omega arith }

pub hears_more : {read rest : List ℕ} {frames more : List Frame} {acknowledged most : ℕ} → Hearing read rest frames acknowledged more most → (frame : Frame) (count : ℕ) → Takes rest frame count
    → (again : List Frame) (greatest : ℕ) → again ≡ more ++ counted (frame ∷ []) → greatest ≡ max most (count_in (role frame)) → Hearing read (drop count rest) frames acknowledged again greatest
hears_more {read} {rest} {frames} {more} {acknowledged} {most} h frame count t again greatest ea eg =
    let parts : rest ≡ spelling frame ++ drop count rest = sym (take-append-drop count rest) ∙ ap (λ bytes. bytes ++ drop count rest) t.2 in
    record {
      seen = h.seen ++ frame ∷ [];
      are_frames = each_push IsFrame h.seen frame h.are_frames t.0;
      bytes = h.bytes ∙ ap (λ bytes. spellings h.seen ++ bytes) parts ∙ spellings_push h.seen frame (drop count rest);
      frames_are = ea ∙ ap (λ fs. fs ++ counted (frame ∷ [])) h.frames_are ∙ append_assoc frames (counted h.seen) (counted (frame ∷ [])) ∙ ap (λ fs. frames ++ fs) (sym (filter-append (λ f. is_counted (role f)) h.seen (frame ∷ [])));
      most_is = omega (arith, eg, h.most_is, told_push h.seen frame);
    }

-- each frame takes bytes
pub takes_some : (rest : List ℕ) (frame : Frame) (count : ℕ) → Takes rest frame count → length (drop count rest) < length rest
takes_some rest frame count t = omega (arith, length-drop count rest, ap length t.2, length-take count rest, spelling_long frame, t.1)

heard_up_to : {read rest : List ℕ} {frames more : List Frame} {acknowledged most : ℕ} → Hearing read rest frames acknowledged more most → NoFrame rest → HearsLine read frames acknowledged more most
heard_up_to {read} {rest} {frames} {more} {acknowledged} {most} h n = record {
  seen = h.seen;
  reads = record { frames = h.are_frames; rest = rest; bytes = h.bytes; ends = n };
  frames_are = h.frames_are;
  most_is = h.most_is;
}

pub heard_none : {read rest : List ℕ} {frames more : List Frame} {acknowledged most : ℕ} → Hearing read rest frames acknowledged more most → front rest ≡ Ok None → HearsLine read frames acknowledged more most
heard_none {read} {rest} {frames} {more} {acknowledged} {most} h e =
    heard_up_to h (λ frame behind f k. let whole : front rest ≡ Ok (Some frame) = ap front k ∙ front-spelled frame behind f in cc)

pub heard_fault : {read rest : List ℕ} {frames more : List Frame} {acknowledged most : ℕ} → Hearing read rest frames acknowledged more most → (cause : FrameCause) → front rest ≡ Err cause → HearsLine read frames acknowledged more most
heard_fault {read} {rest} {frames} {more} {acknowledged} {most} h cause e =
    heard_up_to h (λ frame behind f k. let whole : front rest ≡ Ok (Some frame) = ap front k ∙ front-spelled frame behind f in cc)

-- ---- one connection after another

-- what was heard on the lines so far, and those that are left have greater numbers
pub record HearsTo (lines rest : List Line) (frames : List Frame) (acknowledged : ℕ) : Type 0 where
  pub seen : ℕ → List Frame
  pub bound : ℕ
  pub numbers : AllByRecursion (λ line. line.connection < bound) lines
  pub reads : (c : ℕ) → Reads None (read_on c lines) (seen c)
  pub frames_are : frames ≡ accepted_below seen bound
  pub acknowledged_is : acknowledged ≡ told_below seen bound
  pub rising : Rising bound rest

no_bytes_read : Reads None [] []
no_bytes_read = record { frames = tt; rest = []; bytes = refl; ends = λ frame more f e. let none : length (spelling frame ++ more) ≡ 0 = sym (ap length e) in omega (arith, spelling_long frame, length-append (spelling frame) more) }

pub hears_nothing : (lines : List Line) → Rising 0 lines → HearsTo [] lines [] 0
hears_nothing lines r = record { seen = λ c. []; bound = 0; numbers = tt; reads = λ c. no_bytes_read; frames_are = refl; acknowledged_is = refl; rising = r }

all_below : (low high : ℕ) (lines : List Line) → low ≤ high → AllByRecursion (λ line. line.connection < low) lines → AllByRecursion (λ line. line.connection < high) lines
all_below low high [] l h = tt
all_below low high (x ∷ xs) l h = (omega (arith, h.0), all_below low high xs l h.1)

one_below : (lines : List Line) (line : Line) → AllByRecursion (λ l. l.connection < line.connection) lines → AllByRecursion (λ l. l.connection < suc line.connection) (lines ++ line ∷ [])
one_below [] line h = (omega arith, tt)
one_below (x ∷ xs) line h = (omega (arith, h.0), one_below xs line h.1)

pub sees_to : {lines rest : List Line} {frames : List Frame} {acknowledged : ℕ} (h : HearsTo lines rest frames acknowledged) → Sees (side_with lines) h.bound h.seen
sees_to {lines} {rest} {frames} {acknowledged} h = record { reads = h.reads; past = λ c l. read_none lines h.bound c h.numbers l }

pub hears_line : {lines rest : List Line} {frames more : List Frame} {acknowledged most : ℕ} (line : Line) → HearsTo lines (line ∷ rest) frames acknowledged → HearsLine line.read frames acknowledged more most
    → HearsTo (lines ++ line ∷ []) rest more most
hears_line {lines} {rest} {frames} {more} {acknowledged} {most} line s h =
    let numbers : AllByRecursion (λ l. l.connection < line.connection) lines = all_below s.bound line.connection lines s.rising.0 s.numbers in
    let at : s.bound + (line.connection - s.bound) ≡ line.connection = omega (arith, s.rising.0) in
    let before : accepted_below (seen_with line.connection h.seen s.seen) line.connection ≡ accepted_below s.seen s.bound =
    accepted_with line.connection h.seen s.seen line.connection (omega arith) ∙ ap (accepted_below s.seen) (sym at) ∙ accepted_past (sees_to s) (line.connection - s.bound) in
    let told_before : told_below (seen_with line.connection h.seen s.seen) line.connection ≡ told_below s.seen s.bound =
    told_with line.connection h.seen s.seen line.connection (omega arith) ∙ ap (told_below s.seen) (sym at) ∙ told_past (sees_to s) (line.connection - s.bound) in
    let here : seen_with line.connection h.seen s.seen line.connection ≡ h.seen = with_here line.connection h.seen s.seen line.connection refl in
    record {
      seen = λ c. seen_with line.connection h.seen s.seen c;
      bound = suc line.connection;
      numbers = one_below lines line numbers;
      reads = λ c. elim (cases_eq c line.connection) [
        | inl e ↦ same_reads refl (ap (λ n. read_on n (lines ++ line ∷ [])) e ∙ read_last lines line line.connection numbers refl) (with_here line.connection h.seen s.seen c e) h.reads
        | inr apart ↦ same_reads refl (read_before lines line c (λ e. apart (sym e))) (with_other line.connection h.seen s.seen c apart) (s.reads c)
      ];
      frames_are = h.frames_are ∙ ap (λ fs. fs ++ counted h.seen) s.frames_are ∙ ap (λ fs. fs ++ counted h.seen) (sym before)
          ∙ ap (λ fs. accepted_below (seen_with line.connection h.seen s.seen) line.connection ++ counted fs) (sym here);
      acknowledged_is = omega (arith, h.most_is, s.acknowledged_is, told_before, ap told here);
      rising = s.rising.1;
    }

-- the next of some lines
pub hears_next : (lines : List PlainLine) (i : ℕ) (line : PlainLine) {frames more : List Frame} {acknowledged most : ℕ} → i < length lines → line ≡ get_or lines i line
    → HearsTo (map line_of (take i lines)) (map line_of (drop i lines)) frames acknowledged → HearsLine line.read frames acknowledged more most
    → HearsTo (map line_of (take (i + 1) lines)) (map line_of (drop (i + 1) lines)) more most
hears_next lines i line {frames} {more} {acknowledged} {most} l e s h =
    let rest : map line_of (drop i lines) ≡ line_of line ∷ map line_of (drop (i + 1) lines) = ap (map line_of) (drop_more lines i line l) ∙ ap (λ x. line_of x ∷ map line_of (drop (i + 1) lines)) (sym e) in
    let done : map line_of (take (i + 1) lines) ≡ map line_of (take i lines) ++ line_of line ∷ [] = map_more line_of lines i line l ∙ ap (λ x. map line_of (take i lines) ++ line_of x ∷ []) (sym e) in
    subst (λ (ls : List Line). HearsTo ls (map line_of (drop (i + 1) lines)) more most) (sym done)
    (hears_line (line_of line) (subst (λ (ls : List Line). HearsTo (map line_of (take i lines)) ls frames acknowledged) rest s) h)

-- all lines
pub hears_all : (lines : List PlainLine) (i : ℕ) {frames : List Frame} {acknowledged : ℕ} → length lines ≤ i → HearsTo (map line_of (take i lines)) (map line_of (drop i lines)) frames acknowledged
    → Hears (map line_of lines) frames acknowledged
hears_all lines i {frames} {acknowledged} l s =
    let all : take i lines ≡ lines = take_all i lines l in
    subst (λ (ls : List PlainLine). Hears (map line_of ls) frames acknowledged) all (record { seen = s.seen; bound = s.bound; sees = sees_to s; frames_are = s.frames_are; acknowledged_is = s.acknowledged_is })
