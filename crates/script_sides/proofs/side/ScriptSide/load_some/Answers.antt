use Rattle.std.proofs.Common.{◌≤◌, sym, subst, arith}
use Rattle.std.proofs.lemmas.Bool.{iff_false}
use Rattle.pair_runs.specs.Sides.{SideState}
use Rattle.script_sides.specs.Answering.{Stays}
use Rattle.script_sides.specs.Progressing.{LoadedBy, LoadsPart, with_half}
use Rattle.script_sides.specs.Sided.{SideRun, state_of}
use Rattle.script_sides.proofs.Begun.{LoadsOn, not_last, last_was, loaded_by, part_loaded, part_stays}
use Rattle.script_sides.proofs.side.ScriptSide.load_some.Goals as goal

pub returns-then-is_whole-clause-loads : goal.returns-then-is_whole-clause-loads
returns-then-is_whole-clause-loads c =
    let few : c.load-count.result ≤ c.args.most = omega (arith, c.load-count.ensures.count) in
    loaded_by c.args.most c.load-count.result (state_of c.args.self.now) (state_of c.hand_back.new.self) c.hand_back.result few
    (subst (λ (a : SideState). LoadedBy c.load-count.result a (state_of c.hand_back.new.self) c.hand_back.result)
    (last_was c.load-count.result c.in-Some.half c.load-count.new.self c.args.self.now c.next_half.new.self c.in-Some.ensures c.load-count.ensures.loaded) c.hand_back.ensures.loads)

pub returns-else-is_whole-clause-loads : goal.returns-else-is_whole-clause-loads
returns-else-is_whole-clause-loads c =
    let on : LoadsOn c.args.most c.load-count.result c.in-Some.half c.load-count.new.self = record {
      some = c.requires.some;
      taken = c.load-count.ensures.count;
      is = c.load-count.ensures.loaded;
      left =
          not_last c.load-count.result c.in-Some.half c.load-count.new.self c.load-count.ensures.loaded c.load-count.ensures.within
          (iff_false c.is_whole.ensures c.if-is_whole.false);
    } in
    subst (λ (x : SideRun). LoadsPart c.args.most c.load-count.result (state_of c.args.self.now) (state_of (with_half c.load-count.new.self x))) (sym c.self.view_is)
    (part_loaded c.args.most c.load-count.result c.in-Some.half c.load-count.new.self c.args.self.now c.next_half.new.self c.in-Some.ensures on)

pub returns-else-is_whole-clause-leaves : goal.returns-else-is_whole-clause-leaves
returns-else-is_whole-clause-leaves c =
    let on : LoadsOn c.args.most c.load-count.result c.in-Some.half c.load-count.new.self = record {
      some = c.requires.some;
      taken = c.load-count.ensures.count;
      is = c.load-count.ensures.loaded;
      left =
          not_last c.load-count.result c.in-Some.half c.load-count.new.self c.load-count.ensures.loaded c.load-count.ensures.within
          (iff_false c.is_whole.ensures c.if-is_whole.false);
    } in
    subst (λ (x : SideRun). Stays c.args.self.now (with_half c.load-count.new.self x)) (sym c.self.view_is)
    (part_stays c.args.most c.load-count.result c.in-Some.half c.load-count.new.self c.args.self.now c.next_half.new.self c.in-Some.ensures on)
