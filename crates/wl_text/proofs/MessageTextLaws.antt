-- Reading and printing undo each other.
--
-- A message that can be printed is spelled by arguments; its text is the front with the interface, the object and the name, and then
-- the text of those arguments. Each reader gives back just what the matching piece of the text was written of, since what stands
-- behind it can't be taken for a part of it: behind a number stands no digit, behind a name a byte that no name has. So the text is
-- read as the same arguments, and the message that is built of them is the first one with zeros as padding. The other way, each
-- reader that gives a value tells that the text was written so, and the message of the values is a message of the table.
use Rattle.std.proofs.Common.{◌≡◌, ℕ, ℤ, ◌+◌, ◌^◌, ◌<◌, ◌≤◌, nat_le, List, [], ◌++◌, length, take, drop, slice_get, codes, true, Some, sym, ap, ◌∙◌, subst, arith, take-append-drop, length-drop, leb-true}
use Rattle.std.proofs.lemmas.Bool.Decides.{nat_tests}
use Rattle.std.proofs.lemmas.List.{drop_at, length-take-le}
use Rattle.std.proofs.lemmas.List.Elements.{All-drop}
use Rattle.std.specs.List.{list_all}
use Rattle.wl_wire.specs.declared.message.TheConstants.{LONGEST_MESSAGE}
use Rattle.wl_wire.specs.declared.arguments.Arg.{Arg}
use Rattle.wl_wire.specs.Arguments.{Spells}
use Rattle.wl_wire.specs.ArgLaws.{FitSlots, zero_padded}
use Rattle.wl_wire.specs.Building.{args_bytes, built}
use Rattle.wl_wire.specs.SignatureForm.{SignatureForm}
use Rattle.wl_wire.specs.Wire.{object_of, opcode_of, IsMessage}
use Rattle.wl_wire.proofs.ArgPadding.{AreBytes, args-long, read-is-built, word_at-small}
use Rattle.wl_wire.proofs.ArgRoundTrip.{good-is-spelled, built-is-read}
use Rattle.wl_wire.proofs.ArgShapes.{spells-fault}
use Rattle.wl_wire.proofs.BuildingLemmas.{built-message}
use Rattle.wl_tables.specs.Laws.{OpcodeTellsName, InterfaceTellsName}
use Rattle.wl_tables.specs.Messages.{form_of}
use Rattle.wl_tables.specs.Places.{MessageRow}
use Rattle.wl_tables.specs.Table.{messages}
use Rattle.wl_tables.specs.declared.interface.Interface.{Interface}
use Rattle.wl_tables.specs.declared.way.Way.{Way}
use Rattle.wl_text.specs.declared.arg_reading.TextArgs.{TextArgs}
use Rattle.wl_text.specs.declared.head.Head.{Head}
use Rattle.wl_text.specs.declared.text_message.TextMessage.{TextMessage}
use Rattle.wl_text.specs.ArgTexts.{args_text}
use Rattle.wl_text.specs.Text.{start_text, call_text, row_text, text_of, head_at, last_args_at, message_from, message_of}
use Rattle.wl_text.specs.Enclosed.{is_shown}
use Rattle.wl_text.specs.TextLaws.{IsText, PrintedIsRead, OneMessage, TextIsVisible, ReadIsVisible}
use Rattle.wl_text.proofs.VisibleLaws.{text_shown}
use Rattle.wl_text.proofs.FrontLaws.{if_some, some_same, then_some}
use Rattle.wl_wire.proofs.ArgValuesLemmas.{args-in}
use Rattle.wl_text.proofs.ArgsTextLaws.{AreSaid}
use Rattle.wl_text.proofs.HandleCounts.{named_counts, counted_names}
use Rattle.wl_text.proofs.HeadLaws.{IsHead, named_text, in_table, head_sound, head_complete, last_sound, last_complete}
use Rattle.wl_text.proofs.WireBytes.{args_good, built_are_bytes, built_object, built_opcode}

-- the text of a message of this row that these arguments spell
text_at : (interface : Interface) (way : Way) (message : List ℕ) (handles : List ℤ) (row : MessageRow) (args : List Arg) → slice_get (messages interface way) (opcode_of message) ≡ Some row → Spells (form_of row).slots (drop 8 message) args → text_of interface way message handles ≡ start_text interface (object_of message) ++ call_text row.name args handles
unfolding text_of
text_at interface way message handles row args stands spelled =
    ap (λ it. row_text it interface message handles) stands
    ∙ ap (λ them. start_text interface (object_of message) ++ call_text row.name them handles) (args-in (form_of row).slots (drop 8 message) args spelled)

-- the same bytes before and behind, with zeros as padding
clear_again : (message zeroed : List ℕ) → 8 ≤ length message → take 8 message ++ zeroed ≡ message → zeroed ≡ drop 8 message
clear_again message zeroed long same = sym (drop_at (take 8 message) zeroed 8 (length-take-le 8 message long)) ∙ ap (drop 8) same

-- the text of a message that can be printed is visible
pub text_is_visible : TextIsVisible
text_is_visible interface way message handles it =
    let row : MessageRow = it.prints.row in
    let form : SignatureForm = form_of row in
    let body : List ℕ = drop 8 message in
    let spelled = (good-is-spelled form.slots body).0 it.prints.good in
    let args : List Arg = spelled.0 in
    let good = args_good form.slots body args (All-drop (λ byte. byte < 256) 8 message it.bytes) spelled.1 in
    let table = in_table interface way (opcode_of message) row it.prints.stands in
    let named = counted_names form.slots args handles good.0 (it.prints.named ∙ sym table.counted, it.numbers) in
    ap (list_all is_shown) (text_at interface way message handles row args it.prints.stands spelled.1)
    ∙ text_shown interface (object_of message) row.name form.slots args handles (word_at-small message 0 it.bytes) table.shown good.0 good.1 named

module _ (opcodes : OpcodeTellsName) (names : InterfaceTellsName) where
  pub printed_is_read : PrintedIsRead
  unfolding message_of message_from
  printed_is_read interface way message handles it =
      let row : MessageRow = it.prints.row in
      let form : SignatureForm = form_of row in
      let body : List ℕ = drop 8 message in
      let spelled = (good-is-spelled form.slots body).0 it.prints.good in
      let args : List Arg = spelled.0 in
      let good = args_good form.slots body args (All-drop (λ byte. byte < 256) 8 message it.bytes) spelled.1 in
      let table = in_table interface way (opcode_of message) row it.prints.stands in
      let named = counted_names form.slots args handles good.0 (it.prints.named ∙ sym table.counted, it.numbers) in
      let text = text_at interface way message handles row args it.prints.stands spelled.1 in
      let arguments : List ℕ = args_text [] args handles ++ codes ")" in
      let head = head_complete opcodes names way interface (object_of message) (opcode_of message) row arguments it.prints.stands (word_at-small message 0 it.bytes) in
      let last = last_complete form args handles good.0 good.1 named in
      let long = args-long form.slots body args spelled.1 in
      let short : 8 + length (args_bytes args) ≤ LONGEST_MESSAGE = omega (arith, long, length-drop 8 message, it.whole.is_bounded, it.whole.has_header) in
      let fits : nat_le (8 + length (args_bytes args)) LONGEST_MESSAGE ≡ true = grind (arith, nat_tests) in
      let again = read-is-built form.slots message args it.whole it.bytes spelled.1 in
      rw (text, head, last, fits) (ap (λ bytes. Some (record { message = bytes; interface = interface; handles = handles })) again)

  -- the message of what was read
  read_text : (way : Way) (line : List ℕ) (head : Head) (said : TextArgs) (rest : List ℕ) → IsHead way line rest head → AreSaid [] head.signature.slots rest (codes ")") said → 8 + length (args_bytes said.args) ≤ LONGEST_MESSAGE → IsText way line (record { message = built head.object head.opcode said.args; interface = head.interface; handles = said.handles })
  read_text way line head said rest is_head are_said short =
      let row : MessageRow = is_head.row in
      let form : SignatureForm = form_of row in
      let args : List Arg = said.args in
      let message : List ℕ = built head.object head.opcode args in
      let table = in_table head.interface way head.opcode row is_head.stands in
      let low : head.opcode < 2 ^ 16 = omega (arith, table.low) in
      let fits : FitSlots form.slots args = subst (λ it. FitSlots it.slots args) is_head.form (are_said.fits (omega (arith, short))) in
      let object : object_of message ≡ head.object = built_object head.object head.opcode args is_head.small in
      let opcode : opcode_of message ≡ head.opcode = built_opcode head.object head.opcode args low short in
      let whole : IsMessage message = built-message head.object head.opcode args low short in
      let bytes : AreBytes message = built_are_bytes head.object head.opcode args are_said.holds in
      let spelled : Spells form.slots (drop 8 message) args = built-is-read form.slots head.object head.opcode args fits in
      let stands : slice_get (messages head.interface way) (opcode_of message) ≡ Some row = ap (slice_get (messages head.interface way)) opcode ∙ is_head.stands in
      let counts = named_counts form.slots args said.handles fits are_said.named in
      let same : built (object_of message) (opcode_of message) args ≡ message = ap (λ it. built it (opcode_of message) args) object ∙ ap (λ it. built head.object it args) opcode in
      let zeroed : take 8 message ++ zero_padded form.slots (drop 8 message) ≡ message = sym (read-is-built form.slots message args whole bytes spelled) ∙ same in
      let text = text_at head.interface way message said.handles row args stands spelled in
      record {
        printable = record {
          whole = whole;
          bytes = bytes;
          prints = record { row = row; stands = stands; good = spells-fault form.slots (drop 8 message) args spelled; named = counts.0 ∙ table.counted };
          numbers = counts.1;
        };
        padding = clear_again message (zero_padded form.slots (drop 8 message)) whole.has_header zeroed;
        says = text ∙ ap (λ it. start_text head.interface it ++ call_text row.name args said.handles) object
            ∙ ap (λ it. start_text head.interface head.object ++ named_text row.name it) (sym are_said.says) ∙ sym is_head.says;
      }

  pub read_is_text : (way : Way) (line : List ℕ) (it : TextMessage) → message_of way line ≡ Some it → IsText way line it
  unfolding message_of message_from
  read_is_text way line it told =
      let head = then_some (head_at way line) _ it told in
      let said = then_some (last_args_at head.0.0.signature head.0.1) _ it head.2 in
      let chosen = if_some (nat_le (8 + length (args_bytes said.0.args)) LONGEST_MESSAGE) _ it said.2 in
      subst (IsText way line) chosen.1
      (read_text way line head.0.0 said.0 head.0.1 (head_sound opcodes names way line head.0.1 head.0.0 head.1) (last_sound head.0.0.signature head.0.1 said.0 said.1) (leb-true _ _ chosen.0))

  pub text_is_read : (way : Way) (line : List ℕ) (it : TextMessage) → IsText way line it → message_of way line ≡ Some it
  text_is_read way line it text =
      let printed = printed_is_read it.interface way it.message it.handles text.printable in
      let clear : take 8 it.message ++ zero_padded (form_of text.printable.prints.row).slots (drop 8 it.message) ≡ it.message =
      ap (λ bytes. take 8 it.message ++ bytes) text.padding ∙ take-append-drop 8 it.message in
      ap (message_of way) (sym text.says) ∙ printed ∙ ap (λ bytes. Some (record { message = bytes; interface = it.interface; handles = it.handles })) clear

  pub read_is_visible : ReadIsVisible
  read_is_visible way line it told =
      let text = read_is_text way line it told in
      ap (list_all is_shown) (sym text.says) ∙ text_is_visible it.interface way it.message it.handles text.printable

  pub one_message : OneMessage
  one_message way line one other is are = some_same one other (sym (text_is_read way line one is) ∙ text_is_read way line other are)
