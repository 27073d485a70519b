use Rattle.std.proofs.Common.{◌≡◌, [], ◌∷◌, All, sym, ap, ◌∙◌, arith}
use Rattle.std.proofs.lemmas.List.{append-nil}
use Rattle.std.proofs.lemmas.List.Elements.{All-cons, All-nil}
use Rattle.wl_wire.specs.Wire.{IsMessage, cut_rest}
use Rattle.transfer_frames.proofs.laws.message_fits.Goals as goal

pub returns : goal.returns
returns c = λ message is_message.
    let one : All IsMessage (message ∷ []) = All-cons IsMessage message [] is_message (All-nil IsMessage) in
    let whole : cut_rest message ≡ [] = ap cut_rest (sym (append-nil message)) ∙ (c.joined_is_cut.ensures (message ∷ []) one).1 in
    record { fields = (is_message.has_header, whole); fits = omega (arith, is_message.is_bounded) }
