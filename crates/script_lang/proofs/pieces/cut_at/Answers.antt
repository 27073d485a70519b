use Rattle.std.proofs.Common.{◌≡◌, ◌+◌, suc, take, drop, Some, sym, ap, ◌∙◌, arith}
use Rattle.script_lang.specs.Pieces.{front, behind}
use Rattle.script_lang.proofs.PieceLemmas.{cut_none, cut_some}
use Rattle.script_lang.proofs.pieces.cut_at.Goals as goal

pub returns-in-Some-clause-front : goal.returns-in-Some-clause-front
returns-in-Some-clause-front c =
    let cut = cut_some c.args.separator c.args.bytes.now c.in-Some.at c.in-Some.ensures in
    c.split_at.ensures.front ∙ sym cut.0

pub returns-in-Some-clause-behind : goal.returns-in-Some-clause-behind
returns-in-Some-clause-behind c =
    let cut = cut_some c.args.separator c.args.bytes.now c.in-Some.at c.in-Some.ensures in
    let next : c.in-Some.at + 1 ≡ suc c.in-Some.at = omega arith in
    ap Some (c.split_at-in-Some.ensures.back ∙ ap (λ n. drop n c.args.bytes.now) next) ∙ sym cut.1

pub returns-in-None-clause-front : goal.returns-in-None-clause-front
returns-in-None-clause-front c = sym (cut_none c.args.separator c.args.bytes.now c.in-None.ensures).0

pub returns-in-None-clause-behind : goal.returns-in-None-clause-behind
returns-in-None-clause-behind c = sym (cut_none c.args.separator c.args.bytes.now c.in-None.ensures).1
