use Rattle.std.proofs.Common.{ℕ, List, ◌++◌, take, drop, ◌∙◌, ap, arith, refl}
use Rattle.std.proofs.lemmas.List.{take_rest}
use Rattle.wp_outside.proofs.Overwriting.{past_written}
use Rattle.wp_outside.proofs.rooms.write_over.Goals as goal

pub returns-clause-spare : goal.returns-clause-spare
returns-clause-spare c =
    let n = c.copy_front.result in
    let bytes = c.args.bytes.now in
    past_written c.args.room.now bytes c.copy_front.new.to c.args.used n _ c.requires
    (omega (arith, c.copy_front.ensures.count)) refl
    (c.copy_front.ensures.bytes
    ∙ ap (λ (zs : List ℕ). take n bytes ++ drop n zs) (take_rest c.args.room.now c.args.used))
