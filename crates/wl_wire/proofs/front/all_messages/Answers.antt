use Rattle.std.proofs.Common.{◌≡◌, ◌↔◌, ◌∙◌, ◌==◌, sym, ap, take, Ok, Err, Some, None, ℕ, List, [], ◌∷◌, length, Bool, true, false, IsTrue, arith}
use Rattle.std.proofs.lemmas.Bool.{false≢true, ne_eqb}
use Rattle.wl_wire.specs.Wire.{first, cut_rest}
use Rattle.wl_wire.proofs.CuttingLaws.{rest-waits, rest-fault, rest-message}
use Rattle.wl_wire.proofs.front.all_messages.Goals as goal

-- the test whether a list is empty
empty-test : (rest it : List ℕ) (answer : Bool) → answer ≡ (length rest == 0) → rest ≡ it → IsTrue answer ↔ (it ≡ [])
empty-test [] it answer e same = (λ _. sym same, λ _. e)
empty-test (byte ∷ rest) it answer e same = (λ h. absurd (let told : answer ≡ true = h in let no : answer ≡ false = e ∙ ne_eqb (length (byte ∷ rest)) 0 (λ z. omega arith) in false≢true (sym no ∙ told)), λ h. absurd (cc))

pub messages-preserved : goal.messages-preserved
messages-preserved c =
    let told : first c.messages.rest.now ≡ Ok (Some (take c.in-Ok-Some.size c.messages.rest.now)) = rw c.in-Ok-Some.field-0-is at c.in-Ok-Some.ensures.exact in
    ap cut_rest c.split_at.ensures.back ∙ rest-message c.messages.rest.now c.in-Ok-Some.size told ∙ c.messages.invariant

pub returns-in-Ok-None : goal.returns-in-Ok-None
returns-in-Ok-None c =
    let told : first c.messages.rest.now ≡ Ok None = rw c.in-Ok-None.field-0-is at c.in-Ok-None.ensures.exact in
    empty-test c.messages.rest.now (cut_rest c.args.bytes.now) c.is_empty.result c.is_empty.ensures
    (sym (rest-waits c.messages.rest.now told) ∙ c.messages.invariant)

pub returns-in-Err : goal.returns-in-Err
returns-in-Err c =
    let told : first c.messages.rest.now ≡ Err c.in-Err.field-0 = c.in-Err.ensures.exact in
    empty-test c.messages.rest.now (cut_rest c.args.bytes.now) c.is_empty-in-Err.result c.is_empty-in-Err.ensures
    (sym (rest-fault c.messages.rest.now c.in-Err.field-0 told) ∙ c.messages.invariant)
