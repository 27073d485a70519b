use Rattle.frame_stream.proofs.ListingLaws.{listed_once, one_listing, some_listing}
use Rattle.frame_stream.proofs.listing.listing_is_unique.Goals as goal

pub returns-clause-row : goal.returns-clause-row
returns-clause-row c = listed_once

pub returns-clause-one : goal.returns-clause-one
returns-clause-one c = one_listing

pub returns-clause-some : goal.returns-clause-some
returns-clause-some c = some_listing
