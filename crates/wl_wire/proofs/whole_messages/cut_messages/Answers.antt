use Rattle.std.proofs.Common.{◌≡◌, ◌∙◌, [], ◌∷◌, ◌++◌, drop, take, sym, ap, append_assoc, Ok, Err, Some, None}
use Rattle.std.proofs.lemmas.List.{append-nil}
use Rattle.wl_wire.specs.Wire.{first, cut}
use Rattle.wl_wire.proofs.CuttingLaws.{cut-front, cut-waits, cut-fault}
use Rattle.wl_wire.proofs.whole_messages.cut_messages.Goals as goal

pub messages-preserved : goal.messages-preserved
messages-preserved c =
    let told : first c.messages.rest.now ≡ Ok (Some (take c.in-Ok-Some.size c.messages.rest.now)) = rw c.in-Ok-Some.field-0-is at c.in-Ok-Some.ensures.exact in
    let pushed : c.push.new.self ≡ c.messages.list ++ (take c.in-Ok-Some.size c.messages.rest.now) ∷ [] =
    c.in_ok-push-in-Ok-Some.ensures.ok ∙ ap (λ it. c.messages.list ++ it ∷ []) c.in_ok-message-in-Ok-Some.ensures in
    c.messages.invariant
    ∙ ap (λ them. c.messages.list ++ them) (cut-front c.messages.rest.now c.in-Ok-Some.size told)
    ∙ sym (append_assoc c.messages.list (take c.in-Ok-Some.size c.messages.rest.now ∷ []) (cut (drop c.in-Ok-Some.size c.messages.rest.now)))
    ∙ ap (λ them. them ++ cut (drop c.in-Ok-Some.size c.messages.rest.now)) (sym pushed)
    ∙ ap (λ rest. c.push.new.self ++ cut rest) (sym c.split_at.ensures.back)

pub returns-in-Ok-None : goal.returns-in-Ok-None
returns-in-Ok-None c =
    let told : first c.messages.rest.now ≡ Ok None = rw c.in-Ok-None.field-0-is at c.in-Ok-None.ensures.exact in
    sym (c.messages.invariant ∙ ap (λ them. c.messages.list ++ them) (cut-waits c.messages.rest.now told) ∙ append-nil c.messages.list)

pub returns-in-Err : goal.returns-in-Err
returns-in-Err c =
    let told : first c.messages.rest.now ≡ Err c.in-Err.field-0 = c.in-Err.ensures.exact in
    sym (c.messages.invariant ∙ ap (λ them. c.messages.list ++ them) (cut-fault c.messages.rest.now c.in-Err.field-0 told) ∙ append-nil c.messages.list)
