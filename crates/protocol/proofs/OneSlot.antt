-- The theorem on values: the six claims about one slot together. Assumes nothing.
use Rattle.protocol.specs.OneSlot.{OneSlotHolds}
use Rattle.protocol.proofs.SentSoFar.{delivers_once, broadcasts_once, sends_at_most_twice}
use Rattle.protocol.proofs.AgreementValidity.{agreement, validity}
use Rattle.protocol.proofs.Delivery.{delivery}

pub one-slot-holds : OneSlotHolds
one-slot-holds n t d q sender faulty list assumed =
    record {
      agreement = agreement n t d q sender faulty list assumed.quorum assumed.few assumed.lawful;
      delivers_once = delivers_once q list;
      validity = validity n t d q sender faulty list assumed.quorum assumed.few assumed.lawful;
      broadcasts_once = broadcasts_once q list;
      sends_at_most_twice = sends_at_most_twice q list;
      delivery = delivery n t d q sender faulty list assumed.quorum assumed.few assumed.lawful;
    }
