-- The records follow a proxy through each event.
use Rattle.side_model.specs.Books.{grown}
use Rattle.side_model.specs.Events.{Fed, Handed, Lent, Up, Down, Came, Went, Gave, Asks, Told, Heard, Took, Grouped, Ended, Chose}
use Rattle.side_model.specs.Follows.{Follows}
use Rattle.side_model.specs.FollowLaws.{FollowsOutside, FollowsInside}
use Rattle.side_model.specs.Steps.{step}
use Rattle.side_model.proofs.Dues.{DueIn, InHear, InGroup, InTreat, InEnd, InChoose, due_in, frame_due, group_is_due, turn_due, end_is_due, choice_due, all_rest}
use Rattle.side_model.proofs.FollowsFed.{follows_fed}
use Rattle.side_model.proofs.FollowsHeard.{follows_heard}
use Rattle.side_model.proofs.FollowsOut.{follows_up, follows_down, follows_came, follows_went}
use Rattle.side_model.proofs.FollowsGiven.{follows_handed, follows_lent, follows_gave, follows_asks, follows_told}
use Rattle.side_model.proofs.FollowsWork.{follows_took, follows_grouped, follows_ended, follows_chose}

pub follows_outside : FollowsOutside
follows_outside (Fed item) s book f r a = follows_fed item s book f a.0 a.1
follows_outside (Handed done) s book f r a = follows_handed s book done f a.1
follows_outside Lent s book f r a = follows_lent s book f
follows_outside (Up connection) s book f r a = follows_up s book connection f a.0 a.1 a.2
follows_outside Down s book f r a = follows_down s book f (all_rest s r).hears
follows_outside (Came piece) s book f r a = follows_came s book piece f a
follows_outside (Went n) s book f r a = follows_went s book n f a
follows_outside Gave s book f r a = follows_gave s book f
follows_outside (Asks reason) s book f r a = follows_asks s book reason f a
follows_outside Told s book f r a = follows_told s book f
follows_outside (Heard frame) s book f r a = absurd a
follows_outside Took s book f r a = absurd a
follows_outside Grouped s book f r a = absurd a
follows_outside Ended s book f r a = absurd a
follows_outside Chose s book f r a = absurd a

pub follows_inside : FollowsInside
follows_inside event s book f due = by_phase (due_in s event due)
  where
    by_phase : DueIn s event → Follows (step event s) (grown event s book)
    by_phase (InHear d) = follows_heard s book event f (frame_due s event d)
    by_phase (InGroup a d) = follows_grouped s book event f (group_is_due s event d)
    by_phase (InTreat a b d) = follows_took s book event f (turn_due s event d)
    by_phase (InEnd a b c d) = follows_ended s book event f (end_is_due s event d)
    by_phase (InChoose a b c e d) = follows_chose s book event f (choice_due s event d)
