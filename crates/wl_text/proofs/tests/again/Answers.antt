use Rattle.wl_text.proofs.tests.again.Goals as goal

pub print_message-requires : goal.print_message-requires
print_message-requires c =
    rw c.as_slice-handles.ensures ((c.read_is_text.ensures.exact c.args.way c.args.line.now c.in-Ok.it).1 c.in-Ok.ensures.exact).printable.prints
