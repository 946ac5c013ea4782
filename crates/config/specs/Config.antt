-- RULES section 2: when a configuration, called table in the formats, is good, and what it gives; and where a day's records lie (R4.2, R4.3). n is the
-- number of nodes, t that of the faults borne, and d that of the correct nodes that one sending may miss (R2.1).
-- Assumes nothing.
use Rattle.std.specs.Prelude.{Bool, cond, ◌&&◌, ℕ, ◌+◌, ◌-◌, ◌*◌, ◌/◌, ◌^◌, leb, ltb, eqb}
use Rattle.config.specs.declared.Config.{Config}
use Rattle.config.specs.declared.Slot.{Slot}

-- R2.1: a configuration by its six numbers, of which the last is the quorum that the site chose
abbrev pub config_of : (n t d own day q : ℕ) → Config
config_of n t d own day q = record { n = n; t = t; d = d; own = own; day = day; q = q }

-- R2.9: the least quorum that a site may choose is half of n + t, the fraction dropped, plus 1; the most is n - t - d
abbrev pub least_quorum : (n t : ℕ) → ℕ
least_quorum n t = (n + t) / 2 + 1

abbrev pub most_quorum : (n t d : ℕ) → ℕ
most_quorum n t d = n - t - d

-- the configuration of a system with the least quorum, at node 0; the same with another quorum; and the same at another node (R14.2, R15.2)
unfoldable pub config_for : (n t d day : ℕ) → Config
config_for n t d day = config_of n t d 0 day (least_quorum n t)

unfoldable pub with_quorum : Config → (q : ℕ) → Config
with_quorum config q = config_of config.n config.t config.d config.own config.day q

unfoldable pub with_own : Config → (own : ℕ) → Config
with_own config own = config_of config.n config.t config.d own config.day config.q

-- R2.2: there are 1 to 64 nodes, more than 3t + 2d, we are one of them, and the site chose a quorum from the least to the most
unfoldable pub good : Config → Bool
good config =
    leb 1 config.n && leb config.n 64
    && ltb (3 * config.t + 2 * config.d) config.n
    && ltb config.own config.n
    && leb (least_quorum config.n config.t) config.q
    && leb config.q (most_quorum config.n config.t config.d)

-- R2.3: the quorum is the one that the site chose; 0 if the configuration is not good (R2.5)
unfoldable pub quorum : Config → ℕ
quorum config = cond (good config) config.q 0

-- R2.4: the word of all nodes, bits 0 to n - 1; 0 if the configuration is not good (R2.5)
unfoldable pub mask : Config → ℕ
mask config = cond (good config) (2 ^ config.n - 1) 0

-- ---- slots

-- R2.6: a sender has 16 sequence numbers a day. A slot is in range if it has one of them and a node as its sender; its day is not looked at.
abbrev pub slots : ℕ
slots = 16

unfoldable pub in_range : Config → Slot → Bool
in_range config slot = ltb slot.sender config.n && ltb slot.seq slots

-- a slot of the configuration's day
unfoldable pub slot_of_day : Config → (sender seq : ℕ) → Slot
slot_of_day config sender seq = record { day = config.day; sender = sender; seq = seq }

-- the two are one slot
unfoldable pub same_slot : Slot → Slot → Bool
same_slot first second = eqb first.day second.day && (eqb first.sender second.sender && eqb first.seq second.seq)

-- R4.1: how many bytes a record has
abbrev pub record_size : ℕ
record_size = 64

-- R4.3: where the slot's record starts. The records lie sender by sender, and those of a sender number by number.
unfoldable pub slot_place : Slot → ℕ
slot_place slot = record_size * (slots * slot.sender + slot.seq)

-- R2.4: the same for a slot in range of a good configuration; 0 for any other (R2.5)
unfoldable pub place : Config → Slot → ℕ
place config slot = cond (good config && in_range config slot) (slot_place slot) 0

-- R4.2: how many bytes the records of a day have
unfoldable pub records_size : Config → ℕ
records_size config = record_size * slots * config.n
