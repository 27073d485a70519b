use Rattle.std.proofs.Common.{◌≡◌, ◌++◌, [], drop, map}
use Rattle.wl_wire.specs.ArgSights.{seen_arg}
use Rattle.wl_text.specs.ArgTexts.{args_text}
use Rattle.wl_text.proofs.arg_printing.put_args.Given as goal

-- the arguments that are left complete the text
abbrev pub invariant-items : goal.invariant-items
invariant-items l = l.out ++ args_text l.word (map seen_arg (drop l.arg-index l.args)) l.left ≡ l.initial.out ++ args_text [] (map seen_arg l.args) l.handles
