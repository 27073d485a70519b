use Rattle.std.proofs.Common.{◌≡◌, ◌<◌, ◌/◌, Bool, true, cond, ap, sym, ◌∙◌, subst}
use Rattle.std.proofs.lemmas.Bool.Decides.{nat_tests}
use Rattle.std.proofs.Common.{arith}
use Rattle.pool_words.specs.Views.{no_pool}
use Rattle.shm_pools.specs.Files.{FileState, HasGrown}
use Rattle.script_peers.specs.Owning.{IsStood, can_grow, longer, words_of}
use Rattle.script_peers.proofs.OwnLemmas.{counted_grown, grown_is}
use Rattle.script_peers.proofs.own_file.OwnFile.grow.Goals as goal

pub returns-in_err-grow-clause-stood : goal.returns-in_err-grow-clause-stood
returns-in_err-grow-clause-stood c = subst IsStood (sym c.in_err-grow.ensures.err) c.self.invariant.stood

pub invariant_of-self-then-can_grow : goal.invariant_of-self-then-can_grow
invariant_of-self-then-can_grow c =
    let can : can_grow c.args.bytes c.self.inside.pen ≡ true =
    ap (can_grow c.args.bytes) c.self.view_is ∙ sym c.can_grow.ensures ∙ c.if-can_grow.true
    in
    let more : words_of c.self.inside.pen < c.args.bytes / 8 = grind (arith, nat_tests) in
    counted_grown c.self.inside.words c.self.inside.segments c.args.bytes c.self.inside.pen c.grow.new.self c.self.invariant c.in_ok-grow.ensures.ok
    (subst (λ n. n < c.args.bytes / 8) (sym c.self.invariant.sized) more)

pub returns-in_ok-grow-clause-ok : goal.returns-in_ok-grow-clause-ok
returns-in_ok-grow-clause-ok c =
    grown_is c.args.bytes c.args.self.now c.grow.new.self (sym c.can_grow.ensures ∙ c.if-can_grow.true)
    (subst (λ (f : FileState). HasGrown f c.grow.new.self c.args.bytes) c.self.view_is c.in_ok-grow.ensures.ok)

pub returns-in_ok-grow-clause-stood : goal.returns-in_ok-grow-clause-stood
returns-in_ok-grow-clause-stood c = (invariant_of-self-then-can_grow c).stood

pub returns-else-can_grow-clause-ok : goal.returns-else-can_grow-clause-ok
returns-else-can_grow-clause-ok c = (
  no_pool,
  sym (ap (λ (b : Bool). cond b (longer no_pool c.args.bytes c.args.self.now) c.args.self.now) (sym c.can_grow.ensures ∙ c.if-can_grow.false)),
)

pub returns-else-can_grow-clause-stood : goal.returns-else-can_grow-clause-stood
returns-else-can_grow-clause-stood c = subst IsStood c.self.view_is c.self.invariant.stood
