-- The tags of PDUs: implicit context tags, constructed (RFC 3416 section 3, PDUs; RFC 3417 section
-- 8).
use Rattle.std.specs.Prelude.{ℕ, ◌==◌, if◌then◌else◌, Option, Some, None}
use Rattle.mon_pdu.specs.declared.message.PduKind.{PduKind}
use Rattle.mon_pdu.specs.declared.message.PduKind.TheVariants.{Get, GetNext, Response, Set, Inform}
use Rattle.mon_pdu.specs.declared.message.PduKind.TheVariants.{Trap, Report}

-- the tag of a kind of PDU
abbrev pub octet_of : PduKind → ℕ
octet_of Get = 0xa0
octet_of GetNext = 0xa1
octet_of Response = 0xa2
octet_of Set = 0xa3
octet_of Inform = 0xa6
octet_of Trap = 0xa7
octet_of Report = 0xa8

-- the kind of PDU that has this tag
abbrev pub kind_of : ℕ → Option PduKind
kind_of octet =
    if octet == 0xa0 then Some Get else
    (if octet == 0xa1 then Some GetNext else
    (if octet == 0xa2 then Some Response else
    (if octet == 0xa3 then Some Set else
    (if octet == 0xa6 then Some Inform else
    (if octet == 0xa7 then Some Trap else
    (if octet == 0xa8 then Some Report else None))))))
