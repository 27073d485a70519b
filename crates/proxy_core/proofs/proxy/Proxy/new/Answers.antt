-- At first nothing is due.
use Rattle.std.proofs.Common.{◌≡◌, length, sym, subst, rules}
use Rattle.side_model.specs.State.{Now}
use Rattle.proxy_core.specs.Keeping.{Stands}
use Rattle.proxy_core.proofs.Standings.{stands_at_first}
use Rattle.proxy_core.proofs.proxy.Proxy.new.Goals as goal

pub invariant_of-result : goal.invariant_of-result
invariant_of-result c =
    let sixteen : length c.args.token ≡ 16 = search rules in
    subst (λ (s : Now). Stands s.fault s) (sym c.in_ok-machine.ensures) (stands_at_first c.args.side c.args.token sixteen)
