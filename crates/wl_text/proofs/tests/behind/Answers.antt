use Rattle.wl_text.proofs.tests.behind.Goals as goal

pub append_message-requires : goal.append_message-requires
append_message-requires c =
    rw c.as_slice.ensures ((c.read_is_text.ensures.exact c.args.way c.args.line.now c.in-Ok.it).1 c.in-Ok.ensures.exact).printable.prints
