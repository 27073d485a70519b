-- The front of a message's text, up to its arguments, and the arguments up to the end of a line.
use Rattle.std.proofs.Common.{◌≡◌, ℕ, ℤ, zero, suc, ◌==◌, ◌&&◌, ◌^◌, ◌<◌, ◌≤◌, nat_le, List, [], ◌∷◌, ◌++◌, length, filter_map, slice_get, codes, true, Some, option_map, refl, sym, ap, ◌∙◌, subst, arith, append_assoc, leb-true}
use Rattle.std.proofs.lemmas.Bool.{eqb-true, and_parts}
use Rattle.std.proofs.lemmas.Option.{slice_get_within}
use Rattle.std.specs.Fmt.{decimal}
use Rattle.std.specs.List.{list_all}
use Rattle.wl_wire.specs.declared.arguments.Arg.{Arg}
use Rattle.wl_wire.specs.ArgLaws.{FitSlots}
use Rattle.wl_wire.specs.SignatureForm.{SignatureForm}
use Rattle.wl_tables.specs.declared.interface.Interface.{Interface}
use Rattle.wl_tables.specs.declared.way.Way.{Way}
use Rattle.wl_tables.specs.Interfaces.{interface_name, interface_of}
use Rattle.wl_tables.specs.Messages.{form_of, carried_by, signature}
use Rattle.wl_tables.specs.Messages as table
use Rattle.wl_tables.specs.Places.{MessageRow}
use Rattle.wl_tables.specs.Table.{messages}
use Rattle.wl_tables.specs.Laws.{OpcodeTellsName, InterfaceTellsName}
use Rattle.wl_text.specs.declared.arg_reading.TextArgs.{TextArgs}
use Rattle.wl_text.specs.declared.head.Head.{Head}
use Rattle.wl_text.specs.Enclosed.{is_shown}
use Rattle.wl_text.specs.Front.{behind, split_before}
use Rattle.wl_text.specs.Decimals.{number_at}
use Rattle.wl_text.specs.ArgTexts.{args_text}
use Rattle.wl_text.specs.ArgReading.{args_at}
use Rattle.wl_text.specs.Text.{start_text, whole, last_args_at, head_at}
use Rattle.wl_tables.specs.Ways.{is_event}
use Rattle.wl_text.proofs.FrontLaws.{some_same, then_some, map_some, behind_sound, behind_complete, split_sound, split_complete, lacks}
use Rattle.wl_text.proofs.DecimalLaws.{number_sound, number_complete}
use Rattle.wl_text.proofs.ArgsTextLaws.{Named, AllHold, AreSaid, args_sound, args_complete}
use Rattle.wl_tables.proofs.Ways.{way_again}
use Rattle.wl_text.proofs.TableFacts.{handle_count, is_readable, readable, readable_name}

-- the name behind the object, and the parenthesis
abbrev pub named_text : List ℕ → List ℕ → List ℕ
named_text name rest = codes "." ++ (name ++ (codes "(" ++ rest))

-- the line begins with this front, and the rest stands behind it
pub record IsHead (way : Way) (line rest : List ℕ) (head : Head) : Type 0 where
  pub row : MessageRow
  pub stands : slice_get (messages head.interface way) head.opcode ≡ Some row
  pub form : head.signature ≡ form_of row
  pub says : line ≡ start_text head.interface head.object ++ named_text row.name rest
  pub small : head.object < 2 ^ 32

-- the row that a name is found at
record IsRow (interface : Interface) (way : Way) (opcode : ℕ) (name : List ℕ) : Type 0 where
  row : MessageRow
  stands : slice_get (messages interface way) opcode ≡ Some row
  named : row.name ≡ name

row_found : OpcodeTellsName → (interface : Interface) (way : Way) (name : List ℕ) (opcode : ℕ) → table.opcode_of interface (is_event way) name ≡ Some opcode → IsRow interface way opcode name
row_found opcodes interface way name opcode told =
    let at = map_some (table.row interface (is_event way) opcode) (λ it. it.name) name ((opcodes interface (is_event way) opcode name).0 told) in
    record { row = at.0; stands = ap (λ it. slice_get (messages interface it) opcode) (sym (way_again way)) ∙ at.1; named = at.2 }

form_found : (interface : Interface) (way : Way) (opcode : ℕ) (row : MessageRow) → slice_get (messages interface way) opcode ≡ Some row → signature interface (is_event way) opcode ≡ Some (form_of row)
form_found interface way opcode row stands =
    ap (λ it. option_map form_of (slice_get (messages interface it) opcode)) (way_again way) ∙ ap (option_map form_of) stands

pub head_sound : OpcodeTellsName → InterfaceTellsName → (way : Way) (line rest : List ℕ) (head : Head) → head_at way line ≡ Some (head, rest) → IsHead way line rest head
unfolding head_at
head_sound opcodes names way line rest head told =
    let named = then_some (split_before 64 line) _ (head, rest) told in
    let interface = then_some (interface_of named.0.0) _ (head, rest) named.2 in
    let object = then_some (number_at named.0.1) _ (head, rest) interface.2 in
    let call = then_some (behind (codes ".") object.0.1) _ (head, rest) object.2 in
    let word = then_some (split_before 40 call.0) _ (head, rest) call.2 in
    let opcode = then_some (table.opcode_of interface.0 (is_event way) word.0.0) _ (head, rest) word.2 in
    let form = then_some (signature interface.0 (is_event way) opcode.0) _ (head, rest) opcode.2 in
    let it = row_found opcodes interface.0 way word.0.0 opcode.0 opcode.1 in
    let number = number_sound named.0.1 object.0.1 object.0.0 object.1 in
    let last : call.0 ≡ it.row.name ++ (codes "(" ++ word.0.1) = split_sound 40 call.0 word.0.0 word.0.1 word.1 ∙ ap (λ name. name ++ (codes "(" ++ word.0.1)) (sym it.named) in
    let behind_object : object.0.1 ≡ named_text it.row.name word.0.1 = behind_sound (codes ".") object.0.1 call.0 call.1 ∙ ap (λ text. codes "." ++ text) last in
    let says : line ≡ interface_name interface.0 ++ (codes "@" ++ (decimal object.0.0 ++ named_text it.row.name word.0.1)) =
    split_sound 64 line named.0.0 named.0.1 named.1
    ∙ ap (λ name. name ++ (codes "@" ++ named.0.1)) (sym ((names interface.0 named.0.0).0 interface.1))
    ∙ ap (λ text. interface_name interface.0 ++ (codes "@" ++ text)) (number.0 ∙ ap (λ text. decimal object.0.0 ++ text) behind_object) in
    subst (λ (it : Head × List ℕ). IsHead way line it.1 it.0) (some_same _ (head, rest) form.2)
    (record {
      row = it.row;
      stands = it.stands;
      form = some_same form.0 (form_of it.row) (sym form.1 ∙ form_found interface.0 way opcode.0 it.row it.stands);
      says = says ∙ sym (append_assoc (interface_name interface.0) (codes "@" ++ decimal object.0.0) (named_text it.row.name word.0.1));
      small = number.1;
    })

-- what the table says of an interface's name
pub name_in_table : (interface : Interface) → (lacks 64 (interface_name interface) ≡ true) × (list_all is_shown (interface_name interface) ≡ true)
name_in_table interface = and_parts (lacks 64 (interface_name interface)) (list_all is_shown (interface_name interface)) (readable_name interface)

-- what the table says of a row that stands in it
pub record InTable (row : MessageRow) (opcode : ℕ) : Type 0 where
  pub named : lacks 40 row.name ≡ true
  pub shown : list_all is_shown row.name ≡ true
  pub counted : handle_count (form_of row).slots ≡ length (filter_map carried_by row.places)
  pub low : opcode < 16

all_at : (rows : List MessageRow) (k : ℕ) (row : MessageRow) → list_all is_readable rows ≡ true → slice_get rows k ≡ Some row → is_readable row ≡ true
all_at [] k row all stands = cc stands
all_at (first ∷ rows) zero row all stands = subst (λ it. is_readable it ≡ true) (some_same first row stands) (and_parts (is_readable first) (list_all is_readable rows) all).0
all_at (first ∷ rows) (suc k) row all stands = all_at rows k row (and_parts (is_readable first) (list_all is_readable rows) all).1 stands

pub in_table : (interface : Interface) (way : Way) (opcode : ℕ) (row : MessageRow) → slice_get (messages interface way) opcode ≡ Some row → InTable row opcode
in_table interface way opcode row stands =
    let rows : List MessageRow = messages interface way in
    let parts = and_parts (nat_le (length rows) 16) (list_all is_readable rows) (readable interface way) in
    let own = and_parts (lacks 40 row.name && list_all is_shown row.name) (handle_count (form_of row).slots == length (filter_map carried_by row.places)) (all_at rows opcode row parts.1 stands) in
    let name = and_parts (lacks 40 row.name) (list_all is_shown row.name) own.0 in
    let few : length rows ≤ 16 = leb-true (length rows) 16 parts.0 in
    let within = slice_get_within rows opcode row stands in
    record { named = name.0; shown = name.1; counted = eqb-true _ _ own.1; low = omega (arith, few, within) }

row_by_name : OpcodeTellsName → (interface : Interface) (way : Way) (opcode : ℕ) (row : MessageRow) → slice_get (messages interface way) opcode ≡ Some row → table.opcode_of interface (is_event way) row.name ≡ Some opcode
row_by_name opcodes interface way opcode row stands =
    (opcodes interface (is_event way) opcode row.name).1
    (ap (λ it. option_map (λ other. other.name) (slice_get (messages interface it) opcode)) (way_again way) ∙ ap (option_map (λ other. other.name)) stands)

pub head_complete : OpcodeTellsName → InterfaceTellsName → (way : Way) (interface : Interface) (object opcode : ℕ) (row : MessageRow) (rest : List ℕ) → slice_get (messages interface way) opcode ≡ Some row → object < 2 ^ 32 → head_at way (start_text interface object ++ named_text row.name rest) ≡ Some (record { interface = interface; object = object; opcode = opcode; signature = form_of row }, rest)
unfolding head_at
head_complete opcodes names way interface object opcode row rest stands small =
    let behind_object : List ℕ = named_text row.name rest in
    let behind_point : List ℕ = row.name ++ (codes "(" ++ rest) in
    rw (append_assoc (interface_name interface) (codes "@" ++ decimal object) behind_object, split_complete 64 (interface_name interface) (decimal object ++ behind_object) (name_in_table interface).0, (names interface (interface_name interface)).1 refl, number_complete object behind_object small refl, behind_complete (codes ".") behind_point, split_complete 40 row.name rest (in_table interface way opcode row stands).named, row_by_name opcodes interface way opcode row stands, form_found interface way opcode row stands) refl

-- the arguments up to the end of a line
whole_sound : (said it : TextArgs) (rest : List ℕ) → whole (said, rest) ≡ Some it → (rest ≡ []) × (said ≡ it)
whole_sound said it [] told = (refl, some_same said it told)
whole_sound said it (first ∷ rest) told = cc told

pub last_sound : (form : SignatureForm) (text : List ℕ) (said : TextArgs) → last_args_at form text ≡ Some said → AreSaid [] form.slots text (codes ")") said
unfolding last_args_at
last_sound form text said told =
    let first = then_some (args_at [] form.slots text) _ said told in
    let close = then_some (behind (codes ")") first.0.1) _ said first.2 in
    let end = whole_sound first.0.0 said close.0 close.2 in
    let rest : first.0.1 ≡ codes ")" = behind_sound (codes ")") first.0.1 close.0 close.1 ∙ ap (λ it. codes ")" ++ it) end.0 in
    subst (λ it. AreSaid [] form.slots text (codes ")") it) end.1
    (subst (λ it. AreSaid [] form.slots text it first.0.0) rest (args_sound [] form.slots text first.0.1 first.0.0 first.1))

pub last_complete : (form : SignatureForm) (args : List Arg) (handles : List ℤ) → FitSlots form.slots args → AllHold args → Named args handles → last_args_at form (args_text [] args handles ++ codes ")") ≡ Some (record { args = args; handles = handles })
unfolding last_args_at
last_complete form args handles fits holds named =
    rw (args_complete [] form.slots args handles (codes ")") fits holds named refl, behind_complete (codes ")") []) refl
