use Rattle.waypipe_run.proofs.StreamLemmas.{listed}
use Rattle.waypipe_run.proofs.listings.answer_stream.Goals as goal

pub returns : goal.returns
returns c = listed c.end_listing.result c.args.bytes c.in_ok-listing.listing (rw c.as_slice.ensures at c.in_ok-listing.ensures) c.end_listing.ensures
