use Rattle.std.proofs.Common.{rules, ◌≡◌, false, length, refl, sym, subst, None}
use Rattle.side_model.specs.Books.{Book, no_book}
use Rattle.side_model.specs.State.{Now, no_proxy}
use Rattle.side_model.proofs.TrailParts.{keeps_at_first}
use Rattle.proxy_trail.specs.Kept.{IsKept, state_of}
use Rattle.proxy_trail.proofs.trail.Trail.new.Goals as goal

pub invariant_of-result : goal.invariant_of-result
invariant_of-result c =
    let sixteen : length c.args.token ≡ 16 = search rules in
    let first : IsKept false (state_of (no_proxy c.args.side c.args.token) (no_book c.args.side) None) = record { keeps = keeps_at_first c.args.side c.args.token sixteen; here = λ e. refl } in
    subst (λ (s : Now). IsKept false (state_of s c.new-2.result None)) (sym c.in_ok-proxy.ensures)
    (subst (λ (b : Book). IsKept false (state_of (no_proxy c.args.side c.args.token) b None)) (sym c.new-2.ensures) first)
