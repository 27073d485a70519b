-- Laws of the text of messages of the Wayland protocol: a line is the text of one message at most,
-- and reading and printing undo each other, but for the padding; the text is this project's own.
use Rattle.std.specs.Prelude.{◌≡◌, ◌↔◌, ℕ, ℤ, ◌<◌, List, ◌++◌, take, drop, All, FitsSigned, Some}
use Rattle.std.specs.Prelude.{true}
use Rattle.std.specs.Int.{w32}
use Rattle.std.specs.List.{list_all}
use Rattle.wl_tables.specs.Messages.{form_of}
use Rattle.wl_tables.specs.declared.interface.Interface.{Interface}
use Rattle.wl_tables.specs.declared.way.Way.{Way}
use Rattle.wl_wire.specs.ArgLaws.{zero_padded}
use Rattle.wl_wire.specs.Wire.{IsMessage}
use Rattle.wl_text.specs.declared.text_message.TextMessage.{TextMessage}
use Rattle.wl_text.specs.Enclosed.{is_shown}
use Rattle.wl_text.specs.Text.{CanPrint, text_of, message_of}

-- a whole message that has a text: one of the table's, with good arguments and a 32-bit number for
-- each handle
pub record IsPrintable (interface : Interface) (way : Way) (message : List ℕ)
    (handles : List ℤ) : Type 0 where
  pub whole : IsMessage message
  pub bytes : All (λ byte. byte < 256) message
  pub prints : CanPrint interface way message handles
  pub numbers : All (λ number. FitsSigned w32 number) handles

-- the line is the text of this message, whose padding is zero
pub record IsText (way : Way) (line : List ℕ) (it : TextMessage) : Type 0 where
  pub printable : IsPrintable it.interface way it.message it.handles
  pub padding : zero_padded (form_of printable.prints.row).slots (drop 8 it.message)
      ≡ drop 8 it.message
  pub says : text_of it.interface way it.message it.handles ≡ line

-- a line is read as a message exactly where it is the text of that message
abbrev pub ReadIsText : Type 0
ReadIsText =
    (way : Way) (line : List ℕ) (it : TextMessage)
    → IsText way line it ↔ (message_of way line ≡ Some it)

-- what is read prints as the line
abbrev pub ReadPrints : Type 0
ReadPrints =
    (way : Way) (line : List ℕ) (it : TextMessage)
    → message_of way line ≡ Some it
    → text_of it.interface way it.message it.handles ≡ line

-- a message is read from its text, with zeros as padding
abbrev pub PrintedIsRead : Type 0
PrintedIsRead =
    (interface : Interface) (way : Way) (message : List ℕ) (handles : List ℤ)
    → (it : IsPrintable interface way message handles)
    → message_of way (text_of interface way message handles)
    ≡ Some (record {
      message = take 8 message ++ zero_padded (form_of it.prints.row).slots (drop 8 message);
      interface = interface;
      handles = handles;
    })

-- the text of a message that can be printed is visible ASCII, so it is one line
abbrev pub TextIsVisible : Type 0
TextIsVisible =
    (interface : Interface) (way : Way) (message : List ℕ) (handles : List ℤ)
    → IsPrintable interface way message handles
    → list_all is_shown (text_of interface way message handles) ≡ true

-- a line that is read as a message is visible ASCII
abbrev pub ReadIsVisible : Type 0
ReadIsVisible =
    (way : Way) (line : List ℕ) (it : TextMessage)
    → message_of way line ≡ Some it
    → list_all is_shown line ≡ true

-- a line is the text of one message at most
abbrev pub OneMessage : Type 0
OneMessage =
    (way : Way) (line : List ℕ) (one other : TextMessage) → IsText way line one
    → IsText way line other → one ≡ other
