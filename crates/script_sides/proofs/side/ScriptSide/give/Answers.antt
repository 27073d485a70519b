use Rattle.std.proofs.Common.{Bool, false, subst}
use Rattle.script_sides.specs.Giving.{GivesNext}
use Rattle.script_sides.proofs.Gives.{gives_none, gives_then, next_gives, last_gives, last_ready, next_fewer}
use Rattle.script_sides.proofs.side.ScriptSide.give.Goals as goal

pub items-init : goal.items-init
items-init c = gives_none c.args.self.now c.requires

pub returns-then-not-branch-clause-gives : goal.returns-then-not-branch-clause-gives
returns-then-not-branch-clause-gives c =
    let last : GivesNext false c.items.self c.give_next.new.self = subst (λ (b : Bool). GivesNext b c.items.self c.give_next.new.self) c.if-not-branch.true c.in_ok-give_next.ensures.gives in
    gives_then c.args.self.now c.items.self c.give_next.new.self c.items.invariant (last_gives c.items.self c.give_next.new.self c.items.invariant.sound c.in_ok-give_next.ensures.sound last)

pub returns-then-not-branch-clause-ready : goal.returns-then-not-branch-clause-ready
returns-then-not-branch-clause-ready c =
    let last : GivesNext false c.items.self c.give_next.new.self = subst (λ (b : Bool). GivesNext b c.items.self c.give_next.new.self) c.if-not-branch.true c.in_ok-give_next.ensures.gives in
    last_ready c.items.self c.give_next.new.self c.in_ok-give_next.ensures.sound last

pub items-smaller : goal.items-smaller
items-smaller c =
    next_fewer c.items.self c.give_next.new.self (subst (λ (b : Bool). GivesNext b c.items.self c.give_next.new.self) c.if-not-branch.false c.in_ok-give_next.ensures.gives)

pub items-preserved : goal.items-preserved
items-preserved c =
    gives_then c.args.self.now c.items.self c.give_next.new.self c.items.invariant
    (next_gives c.items.self c.give_next.new.self c.items.invariant.sound c.in_ok-give_next.ensures.sound
    (subst (λ (b : Bool). GivesNext b c.items.self c.give_next.new.self) c.if-not-branch.false c.in_ok-give_next.ensures.gives))
