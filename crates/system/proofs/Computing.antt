-- One name for all definitions that have to be unfolded to compute what a call answers and leaves, on a list of calls that is written out.
-- Assumes nothing.
use lib.Count.{ones}
use Rattle.octets.specs.Octets.{same, number, bytes_of}
use Rattle.signers.specs.Signers.{member, insert, within}
use Rattle.refusal.specs.Outcome.{unless}
use Rattle.config.specs.Config.{config_for, with_own, good, quorum, in_range, slot_of_day, same_slot, slot_place, place, records_size}
use Rattle.bundle.specs.Bundle.{bundle_of, slot_in, header_in, header_reasons, read_reasons, read, payload_part}
use Rattle.protocol.specs.Update.{announced_by, update_reasons, joined_signers, update_result, update}
use Rattle.protocol.specs.Trace.{state}
use Rattle.note.specs.Note as note
use Rattle.record.specs.Record.{layout, encoding, decoded, state_allows, well_formed}
use Rattle.calls.specs.Records.{record_at, replaced, stored}
use Rattle.calls.specs.Open.{open_reasons, opened, open_records}
use Rattle.calls.specs.Broadcast.{search, broadcast_reasons, broadcast, broadcast_records, broadcast_out}
use Rattle.calls.specs.Receive.{record_bundle, receive_reasons, receive, receive_records, receive_out, reported}
use Rattle.system.specs.Demand3.{config_at, records_after, out_after}

-- a declaration that unfolds this name unfolds all that are listed here
unfoldable pub calls-compute : Unit {0}
unfolding ones same number bytes_of member insert within unless config_for with_own good quorum in_range slot_of_day same_slot slot_place place records_size bundle_of slot_in header_in header_reasons read_reasons
    read payload_part announced_by update_reasons joined_signers update_result update state note.encoding note.decoded note.note_allows note.well_formed layout encoding decoded state_allows well_formed record_at replaced stored open_reasons opened open_records
    search broadcast_reasons broadcast broadcast_records broadcast_out record_bundle receive_reasons receive receive_records receive_out reported
    config_at records_after out_after
calls-compute = tt
