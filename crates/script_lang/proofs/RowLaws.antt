-- What the lines of the grammar are like, whatever they ask for: those that ask for something are visible ASCII, and no line is
-- refused for the cause `NotBuilt`.
--
-- Both go by the rows. A field that has its form is visible, since digits and the few words are; a row gives a step only where all
-- its fields have their forms, and refuses others as `Form` or `Number`. Then it goes through the two tables and the words in
-- front of them. A message is visible by the law of message text, which is a premise here.
use Rattle.std.proofs.Common.{◌≡◌, ℕ, Bool, true, false, cond, ◌&&◌, ◌==◌, List, [], ◌∷◌, Option, Some, None, Result, Ok, Err, refl, ap, ◌∙◌, sym, eqb, subst, arith}
use Rattle.std.specs.List.{list_all, list_any}
use Rattle.std.specs.Map.{lookup}
use Rattle.std.specs.Str.{bytes_eq}
use Rattle.std.specs.Prelude.{codes, ◌||◌}
use Rattle.std.proofs.lemmas.Bool.{and_parts}
use Rattle.std.proofs.lemmas.Bool.Decides.{nat_tests}
use Rattle.std.proofs.lemmas.Slice.Eq.{bytes_eq-Decides}
use Rattle.wp_outside.specs.declared.kinds.Direction.TheVariants.{Up, Down}
use Rattle.wp_outside.specs.declared.kinds.Side.{Side}
use Rattle.wp_outside.specs.declared.kinds.Side.TheVariants.{Near, Far}
use Rattle.wl_text.specs.Enclosed.{is_shown}
use Rattle.wl_text.specs.Text.{message_of}
use Rattle.wl_text.specs.TextLaws.{ReadIsVisible}
use Rattle.wl_text.specs.declared.text_message.TextMessage.{TextMessage}
use Rattle.script_lang.specs.Kinds.{Kind, number, count, place, word, size, received, own, bytes, byte, who, direction, is_lower_digit}
use Rattle.script_lang.specs.Lines.{asked_by, peer_line, told, message_line, said, other_line}
use Rattle.wl_tables.specs.Ways.{own_way}
use Rattle.script_lang.specs.Numbers.{is_decimal_digit, is_number, is_negative, is_zero, unsigned}
use Rattle.script_lang.specs.Pieces.{front, behind, fields, fields_behind, onto_first}
use Rattle.script_lang.specs.Rows.{Row, ranged, both, made, none, one, two, three, four, own_rows, peer_rows, link_rows, other_rows}
use Rattle.script_lang.specs.declared.causes.ScriptCause.{ScriptCause}
use Rattle.script_lang.specs.declared.causes.ScriptCause.TheVariants.{Form, Number, Word, Message, NotBuilt}
use Rattle.script_lang.specs.declared.steps.StepKind.{StepKind}
use Rattle.script_lang.specs.declared.steps.StepKind.TheVariants as step

-- where there is an answer this holds, and no refusal is `NotBuilt`
abbrev pub Tells : {A : Type 0} → Type 0 → Result A ScriptCause → Type 0
Tells holds (Ok a) = holds
Tells holds (Err NotBuilt) = ⊥
Tells holds (Err cause) = Unit {0}

-- a refusal tells the same of every answer
refused : (A B P Q : Type 0) (cause : ScriptCause) → Tells {A = A} P (Err cause) → Tells {A = B} Q (Err cause)
refused A B P Q NotBuilt why = why
refused A B P Q _ why = tt

tells_more : (A P Q : Type 0) (told : Result A ScriptCause) → (P → Q) → Tells P told → Tells Q told
tells_more A P Q (Ok a) more holds = more holds
tells_more A P Q (Err cause) more why = refused A A P Q cause why

both_tell : (A B P Q : Type 0) (a : Result A ScriptCause) (b : Result B ScriptCause) → Tells P a → Tells Q b → Tells (P × Q) (both a b)
both_tell A B P Q (Ok a) (Ok b) p q = (p, q)
both_tell A B P Q (Ok a) (Err cause) p q = refused B (A × B) Q (P × Q) cause q
both_tell A B P Q (Err cause) b p q = refused A (A × B) P (P × Q) cause p

made_tells : (A P : Type 0) (make : A → StepKind) (told : Result A ScriptCause) → Tells P told → Tells P (made make told)
made_tells A P make (Ok a) p = p
made_tells A P make (Err cause) p = refused A StepKind P P cause p

-- a test decides between an answer and a refusal
if_tells : (A P : Type 0) (test : Bool) (told : Result A ScriptCause) → (test ≡ true → Tells P told) → Tells P (cond test told (Err Form))
if_tells A P true told tells = tells refl
if_tells A P false told tells = tt

ranged_tells : {A : Type 0} (kind : Kind A) (field : List ℕ) → Tells (Unit {0}) (ranged kind field)
ranged_tells kind field = elim (kind.range field) as (λ b. Tells (Unit {0}) (cond b (Ok (kind.value field)) (Err Number))) [ true ↦ tt | false ↦ tt ]

-- fields of visible bytes
abbrev pub AreShown : List ℕ → Type 0
AreShown field = list_all is_shown field ≡ true

abbrev AllShown : List (List ℕ) → Type 0
AllShown given = list_all (list_all is_shown) given ≡ true

-- a kind whose fields are visible
abbrev Shows : {A : Type 0} → Kind A → Type 0
Shows kind = (field : List ℕ) → kind.form field ≡ true → AreShown field

-- bytes that pass a narrower test
narrower : (test : ℕ → Bool) → ((byte : ℕ) → test byte ≡ true → is_shown byte ≡ true) → (field : List ℕ) → list_all test field ≡ true → AreShown field
narrower test shown [] all = refl
narrower test shown (byte ∷ field) all =
    let parts = and_parts (test byte) (list_all test field) all in
    rw (shown byte parts.0) (narrower test shown field parts.1)

decimal_shown : (byte : ℕ) → is_decimal_digit byte ≡ true → is_shown byte ≡ true
decimal_shown byte is = grind (arith, nat_tests)

digit_shown : (byte : ℕ) → is_lower_digit byte ≡ true → is_shown byte ≡ true
digit_shown byte is = grind (arith, nat_tests)

number_shown : (field : List ℕ) → is_number field ≡ true → AreShown field
number_shown [] is = refl
number_shown (digit ∷ []) is = rw (decimal_shown digit is) refl
number_shown (digit ∷ next ∷ digits) is =
    narrower is_decimal_digit decimal_shown (digit ∷ next ∷ digits) (and_parts _ (list_all is_decimal_digit (digit ∷ next ∷ digits)) is).1

minus_shown : (minus : Bool) (byte : ℕ) (field : List ℕ) → eqb byte 45 ≡ minus → AreShown (cond minus field (byte ∷ field)) → AreShown (byte ∷ field)
minus_shown true byte field is shown = let sign : is_shown byte ≡ true = grind (arith, nat_tests) in rw sign shown
minus_shown false byte field is shown = shown

unsigned_shown : (field : List ℕ) → AreShown (unsigned field) → AreShown field
unsigned_shown [] shown = refl
unsigned_shown (byte ∷ field) shown = minus_shown (eqb byte 45) byte field refl shown

either_shown : (field first second : List ℕ) → AreShown first → AreShown second → (bytes_eq field first || bytes_eq field second) ≡ true → AreShown field
either_shown field first second p q is = elim (bytes_eq field first) as (λ b. bytes_eq field first ≡ b → (b || bytes_eq field second) ≡ true → AreShown field) [
  | true ↦ λ same either. subst AreShown (sym ((bytes_eq-Decides field first).0 same)) p
  | false ↦ λ same either. subst AreShown (sym ((bytes_eq-Decides field second).0 either)) q
] refl is

who_shows : Shows who
who_shows field is = either_shown field (codes "app") (codes "comp") refl refl is

direction_shows : Shows direction
direction_shows field is = either_shown field (codes "up") (codes "down") refl refl is

own_shows : (peer : Side) → Shows (own peer)
own_shows peer field is = unsigned_shown field (number_shown (unsigned field) (and_parts (is_number (unsigned field)) _ is).0)

received_shows : Shows received
received_shows field is = unsigned_shown field (number_shown (unsigned field) (and_parts (is_number (unsigned field)) _ is).0)

bytes_shows : Shows bytes
bytes_shows field is = narrower is_lower_digit digit_shown field (and_parts _ (list_all is_lower_digit field) (and_parts _ _ is).1).1

byte_shows : Shows byte
byte_shows field is = narrower is_lower_digit digit_shown field (and_parts _ (list_all is_lower_digit field) (and_parts _ _ is).1).1

-- a row asks for something of visible fields alone
abbrev RowTells : Row → Type 0
RowTells row = (given : List (List ℕ)) → Tells (AllShown given) (row given)

none_tells : (what : StepKind) → RowTells (none what)
none_tells what [] = refl
none_tells what (a ∷ others) = tt

module _ {A : Type 0} (first : Kind A) (shows : Shows first) where
  one_tells : (make : A → StepKind) → RowTells (one first make)
  one_tells make [] = tt
  one_tells make (a ∷ []) =
      made_tells A (AllShown (a ∷ [])) make _ (if_tells A (AllShown (a ∷ [])) (first.form a) (ranged first a)
      (λ is. tells_more A (Unit {0}) (AllShown (a ∷ [])) (ranged first a) (λ any. rw (shows a is) refl) (ranged_tells first a)))
  one_tells make (a ∷ b ∷ others) = tt

module _ {A B : Type 0} (first : Kind A) (shows : Shows first) (second : Kind B) (also : Shows second) where
  two_tells : (make : A → B → StepKind) → RowTells (two first second make)
  two_tells make [] = tt
  two_tells make (a ∷ []) = tt
  two_tells make (a ∷ b ∷ []) =
      let both_ranged = both_tell A B (Unit {0}) (Unit {0}) (ranged first a) (ranged second b) (ranged_tells first a) (ranged_tells second b) in
      made_tells (A × B) (AllShown (a ∷ b ∷ [])) (λ values. make values.0 values.1) _
      (if_tells (A × B) (AllShown (a ∷ b ∷ [])) (first.form a && second.form b) (both (ranged first a) (ranged second b))
      (λ are. let forms = and_parts (first.form a) (second.form b) are in
      tells_more (A × B) _ (AllShown (a ∷ b ∷ [])) (both (ranged first a) (ranged second b)) (λ any. rw (shows a forms.0, also b forms.1) refl) both_ranged))
  two_tells make (a ∷ b ∷ c ∷ others) = tt

module _ {A B C : Type 0} (first : Kind A) (shows : Shows first) (second : Kind B) (also : Shows second) (third : Kind C) (too : Shows third) where
  three_tells : (make : A → B → C → StepKind) → RowTells (three first second third make)
  three_tells make [] = tt
  three_tells make (a ∷ []) = tt
  three_tells make (a ∷ b ∷ []) = tt
  three_tells make (a ∷ b ∷ c ∷ []) =
      let all : Type 0 = AllShown (a ∷ b ∷ c ∷ []) in
      let last = both_tell B C (Unit {0}) (Unit {0}) (ranged second b) (ranged third c) (ranged_tells second b) (ranged_tells third c) in
      let values = both_tell A (B × C) (Unit {0}) (Unit {0} × Unit {0}) (ranged first a) (both (ranged second b) (ranged third c)) (ranged_tells first a) last in
      if_tells StepKind all (first.form a && second.form b && third.form c) (made (λ v. make v.0 v.1.0 v.1.1) (both (ranged first a) (both (ranged second b) (ranged third c))))
      (λ are.
      let forms = and_parts (first.form a && second.form b) (third.form c) are in
      let two_forms = and_parts (first.form a) (second.form b) forms.0 in
      made_tells (A × (B × C)) all (λ v. make v.0 v.1.0 v.1.1) _
      (tells_more (A × (B × C)) _ all (both (ranged first a) (both (ranged second b) (ranged third c)))
      (λ any. rw (shows a two_forms.0, also b two_forms.1, too c forms.1) refl) values))
  three_tells make (a ∷ b ∷ c ∷ d ∷ others) = tt

module _ {A B C D : Type 0} (first : Kind A) (shows : Shows first) (second : Kind B) (also : Shows second) (third : Kind C) (too : Shows third) (fourth : Kind D) (last : Shows fourth) where
  four_tells : (make : A → B → C → D → StepKind) → RowTells (four first second third fourth make)
  four_tells make [] = tt
  four_tells make (a ∷ []) = tt
  four_tells make (a ∷ b ∷ []) = tt
  four_tells make (a ∷ b ∷ c ∷ []) = tt
  four_tells make (a ∷ b ∷ c ∷ d ∷ []) =
      let all : Type 0 = AllShown (a ∷ b ∷ c ∷ d ∷ []) in
      let ends = both_tell C D (Unit {0}) (Unit {0}) (ranged third c) (ranged fourth d) (ranged_tells third c) (ranged_tells fourth d) in
      let most = both_tell B (C × D) (Unit {0}) _ (ranged second b) (both (ranged third c) (ranged fourth d)) (ranged_tells second b) ends in
      let values = both_tell A (B × (C × D)) (Unit {0}) _ (ranged first a) (both (ranged second b) (both (ranged third c) (ranged fourth d))) (ranged_tells first a) most in
      if_tells StepKind all (first.form a && second.form b && third.form c && fourth.form d) (made (λ v. make v.0 v.1.0 v.1.1.0 v.1.1.1) (both (ranged first a) (both (ranged second b) (both (ranged third c) (ranged fourth d)))))
      (λ are.
      let forms = and_parts (first.form a && second.form b && third.form c) (fourth.form d) are in
      let three_forms = and_parts (first.form a && second.form b) (third.form c) forms.0 in
      let two_forms = and_parts (first.form a) (second.form b) three_forms.0 in
      made_tells (A × (B × (C × D))) all (λ v. make v.0 v.1.0 v.1.1.0 v.1.1.1) _
      (tells_more (A × (B × (C × D))) _ all (both (ranged first a) (both (ranged second b) (both (ranged third c) (ranged fourth d))))
      (λ any. rw (shows a two_forms.0, also b two_forms.1, too c three_forms.1, last d forms.1) refl) values))
  four_tells make (a ∷ b ∷ c ∷ d ∷ e ∷ others) = tt

-- the tables: each word is visible, and each row tells
abbrev RowsTell : List (List ℕ × Row) → Type 0
RowsTell [] = Unit {0}
RowsTell (entry ∷ rows) = AreShown entry.0 × RowTells entry.1 × RowsTell rows

abbrev FoundTells : List ℕ → Option Row → Type 0
FoundTells first (Some row) = AreShown first × RowTells row
FoundTells first None = Unit {0}

lookup_tells : (first : List ℕ) (rows : List (List ℕ × Row)) → RowsTell rows → FoundTells first (lookup (bytes_eq first) rows)
lookup_tells first [] all = tt
lookup_tells first (entry ∷ rows) all = elim (bytes_eq first entry.0) as (λ here. bytes_eq first entry.0 ≡ here → FoundTells first (cond here (Some entry.1) (lookup (bytes_eq first) rows))) [
  | true ↦ λ same. (subst AreShown (sym ((bytes_eq-Decides first entry.0).0 same)) all.0, all.1)
  | false ↦ λ other. lookup_tells first rows all.2
] refl

own_rows_tell : (peer : Side) → RowsTell (own_rows peer)
own_rows_tell peer =
    let own_size = two_tells (own peer) (own_shows peer) size number_shown in
    let one_own = one_tells (own peer) (own_shows peer) in (
      refl,
      own_size (step.File peer),
      (
        refl,
        own_size (step.Grow peer),
        (
          refl,
          four_tells (own peer) (own_shows peer) place number_shown count number_shown word number_shown (step.Fill peer),
          (
            refl,
            one_own (step.Pipe peer),
            (
              refl,
              one_own (step.Give peer),
              (
                refl,
                one_tells received received_shows (step.End peer),
                (
                  refl,
                  one_own (step.Shut peer),
                  (refl, one_tells (number 0 1000000) number_shown (step.Await peer), tt),
                ),
              ),
            ),
          ),
        ),
      ),
    )

peer_rows_tell : (peer : Side) → RowsTell (peer_rows peer)
peer_rows_tell peer = (
  refl,
  one_tells bytes bytes_shows (step.Hex peer),
  (refl, two_tells received received_shows bytes bytes_shows (step.Put peer), own_rows_tell peer),
)

link_rows_tell : RowsTell link_rows
link_rows_tell =
    let moves = two_tells direction direction_shows in (
      refl,
      none_tells step.Connect,
      (
        refl,
        none_tells step.Break,
        (
          refl,
          moves count number_shown step.Send,
          (
            refl,
            moves count number_shown step.Recv,
            (
              refl,
              one_tells count number_shown (step.Both Up),
              (
                refl,
                one_tells count number_shown (step.Both Down),
                (
                  refl,
                  three_tells direction direction_shows place number_shown byte byte_shows step.Spoil,
                  (refl, moves place number_shown step.Cut, tt),
                ),
              ),
            ),
          ),
        ),
      ),
    )

other_rows_tell : RowsTell other_rows
other_rows_tell = (
  refl,
  two_tells who who_shows count number_shown step.Take,
  (
    refl,
    one_tells count number_shown step.Load,
    (
      refl,
      one_tells who who_shows step.Close,
      (
        refl,
        none_tells step.Settle,
        (
          refl,
          one_tells count number_shown step.Drain,
          (refl, none_tells step.Stop, link_rows_tell),
        ),
      ),
    ),
  ),
)

-- a text whose fields are visible is visible
onto_shown : (byte : ℕ) (pieces : List (List ℕ)) → AllShown (onto_first byte pieces) → (is_shown byte ≡ true) × AllShown pieces
onto_shown byte [] all = ((and_parts (is_shown byte) true (and_parts (is_shown byte && true) true all).0).0, refl)
onto_shown byte (piece ∷ pieces) all =
    let parts = and_parts (is_shown byte && list_all is_shown piece) (list_all (list_all is_shown) pieces) all in
    let own = and_parts (is_shown byte) (list_all is_shown piece) parts.0 in
    (own.0, rw (own.1, parts.1) refl)

space_is_shown : (byte : ℕ) → eqb byte 32 ≡ true → is_shown byte ≡ true
space_is_shown byte is = grind (arith, nat_tests)

space_shown : (space : Bool) (byte : ℕ) (bytes : List ℕ) → eqb byte 32 ≡ space → (AllShown (fields bytes) → AreShown bytes)
    → AllShown (cond space ([] ∷ fields bytes) (onto_first byte (fields bytes))) → AreShown (byte ∷ bytes)
space_shown true byte bytes is later all = rw (space_is_shown byte is) (later all)
space_shown false byte bytes is later all = let parts = onto_shown byte (fields bytes) all in rw parts.0 (later parts.1)

fields_shown : (text : List ℕ) → AllShown (fields text) → AreShown text
fields_shown [] all = refl
fields_shown (byte ∷ bytes) all = space_shown (eqb byte 32) byte bytes refl (fields_shown bytes) all

-- what stands behind a word is visible, if anything does
abbrev RestShown : Option (List ℕ) → Type 0
RestShown (Some rest) = AreShown rest
RestShown None = Unit {0}

behind_shown : (rest : Option (List ℕ)) → AllShown (fields_behind rest) → RestShown rest
behind_shown (Some rest) all = fields_shown rest all
behind_shown None all = tt

-- a visible word and what is visible behind it
cut_shown : (space : Bool) (byte : ℕ) (bytes : List ℕ) → eqb byte 32 ≡ space → (AreShown (front 32 bytes) → RestShown (behind 32 bytes) → AreShown bytes)
    → AreShown (cond space [] (byte ∷ front 32 bytes)) → RestShown (cond space (Some bytes) (behind 32 bytes)) → AreShown (byte ∷ bytes)
cut_shown true byte bytes is later before after = rw (space_is_shown byte is) after
cut_shown false byte bytes is later before after =
    let parts = and_parts (is_shown byte) (list_all is_shown (front 32 bytes)) before in rw parts.0 (later parts.1 after)

line_shown : (line : List ℕ) → AreShown (front 32 line) → RestShown (behind 32 line) → AreShown line
line_shown [] before after = refl
line_shown (byte ∷ bytes) before after = cut_shown (eqb byte 32) byte bytes refl (line_shown bytes) before after

-- one line
module _ (visible : ReadIsVisible) where
  said_tells : (peer : Side) (text : List ℕ) (message : Option TextMessage) → message_of (own_way peer) text ≡ message → Tells (AreShown text) (said peer message)
  said_tells peer text (Some message) is = visible (own_way peer) text message is
  said_tells peer text None is = tt

  message_tells : (peer : Side) (first text : List ℕ) → Tells (AreShown text) (message_line peer first text)
  message_tells peer first text = elim (list_any (λ byte. byte == 64) first) as (λ b. Tells (AreShown text) (cond b (said peer (message_of (own_way peer) text)) (Err Word)))
      [ true ↦ said_tells peer text (message_of (own_way peer) text) refl | false ↦ tt ]

  told_tells : (peer : Side) (rest : List ℕ) (found : Option Row) → FoundTells (front 32 rest) found → Tells (AreShown rest) (told peer rest found)
  told_tells peer rest (Some row) all =
      tells_more StepKind _ (AreShown rest) (row (fields_behind (behind 32 rest))) (λ given. line_shown rest all.0 (behind_shown (behind 32 rest) given)) (all.1 (fields_behind (behind 32 rest)))
  told_tells peer rest None all = message_tells peer (front 32 rest) rest

  peer_tells : (peer : Side) (rest : Option (List ℕ)) → Tells (RestShown rest) (peer_line peer rest)
  peer_tells peer None = tt
  peer_tells peer (Some rest) = told_tells peer rest _ (lookup_tells (front 32 rest) (peer_rows peer) (peer_rows_tell peer))

  other_tells : (first : List ℕ) (rest : Option (List ℕ)) (found : Option Row) → FoundTells first found → Tells (AreShown first × RestShown rest) (other_line rest found)
  other_tells first rest (Some row) all =
      tells_more StepKind _ (AreShown first × RestShown rest) (row (fields_behind rest)) (λ given. (all.0, behind_shown rest given)) (all.1 (fields_behind rest))
  other_tells first rest None all = tt

  -- a peer in front of what is visible behind it
  peer_word : (name first : List ℕ) (peer : Side) (rest : Option (List ℕ)) → AreShown name → bytes_eq first name ≡ true → Tells (AreShown first × RestShown rest) (peer_line peer rest)
  peer_word name first peer rest shown is =
      tells_more StepKind _ (AreShown first × RestShown rest) (peer_line peer rest) (λ after. (subst AreShown (sym ((bytes_eq-Decides first name).0 is)) shown, after)) (peer_tells peer rest)

  word_tells : (first : List ℕ) (rest : Option (List ℕ)) → Tells (AreShown first × RestShown rest) (asked_by first rest)
  word_tells first rest =
      let all : Type 0 = AreShown first × RestShown rest in
      let others = other_tells first rest (lookup (bytes_eq first) other_rows) (lookup_tells first other_rows other_rows_tell) in
      elim (bytes_eq first (codes "app")) as (λ b. bytes_eq first (codes "app") ≡ b → Tells all (cond b (peer_line Near rest) (cond (bytes_eq first (codes "comp")) (peer_line Far rest) (other_line rest (lookup (bytes_eq first) other_rows))))) [
        | true ↦ λ is. peer_word (codes "app") first Near rest refl is
        | false ↦ λ no. elim (bytes_eq first (codes "comp")) as (λ b. bytes_eq first (codes "comp") ≡ b → Tells all (cond b (peer_line Far rest) (other_line rest (lookup (bytes_eq first) other_rows)))) [
          | true ↦ λ is. peer_word (codes "comp") first Far rest refl is
          | false ↦ λ other. others
        ] refl
      ] refl

  -- a line that asks for something is visible, and no line is refused for the cause `NotBuilt`
  pub line_tells : (line : List ℕ) → Tells (AreShown line) (asked_by (front 32 line) (behind 32 line))
  line_tells line = tells_more StepKind _ (AreShown line) (asked_by (front 32 line) (behind 32 line)) (λ both. line_shown line both.0 both.1) (word_tells (front 32 line) (behind 32 line))
