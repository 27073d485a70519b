use Rattle.pool_words.proofs.Shared.{pen-is-sync, eye-is-sync, receipt-is-sync}
use Rattle.pool_words.proofs.laws.shared_by_reference.Goals as goal

pub returns-clause-pen : goal.returns-clause-pen
returns-clause-pen c = pen-is-sync

pub returns-clause-eye : goal.returns-clause-eye
returns-clause-eye c = eye-is-sync

pub returns-clause-receipt : goal.returns-clause-receipt
returns-clause-receipt c = receipt-is-sync
