-- The faults of the commands.
use Rattle.std.specs.Prelude.{◌≡◌, ◌⊎◌, ℕ, List, codes}
use Rattle.std.specs.declared.io.ErrorKind.{ErrorKind}
use Rattle.std.specs.declared.io.ErrorKind.TheVariants as kinds
use Rattle.mon_pdu.specs.declared.fault.PduFault.{PduFault}
use Rattle.mon_pdu.specs.declared.fault.PduFault.TheVariants as pdu
use Rattle.mon_app.specs.declared.fault.AppFault.{AppFault}
use Rattle.mon_app.specs.declared.reason.SocketReason.{SocketReason}
use Rattle.mon_app.specs.declared.reason.SocketReason.TheVariants as reasons
use Rattle.mon_app.specs.declared.fault.AppFault.TheVariants.{OutOfMemory, Timeout, FileFault}
use Rattle.mon_app.specs.declared.fault.AppFault.TheVariants.{SocketFault, NotIncreasing}
use Rattle.mon_app.specs.declared.fault.AppFault.TheVariants.{AgentStatus, BadText}

-- the number of a fault on a printed line
abbrev pub number_of : AppFault → ℕ
number_of OutOfMemory = 1
number_of Timeout = 2
number_of FileFault = 3
number_of (SocketFault reason) = 4
number_of NotIncreasing = 5
number_of (AgentStatus status index) = 6
number_of BadText = 8

-- the name of a fault on a printed line
abbrev pub name_of : AppFault → List ℕ
name_of OutOfMemory = codes "OutOfMemory"
name_of Timeout = codes "Timeout"
name_of FileFault = codes "FileFault"
name_of (SocketFault reason) = codes "SocketFault"
name_of NotIncreasing = codes "NotIncreasing"
name_of (AgentStatus status index) = codes "AgentStatus"
name_of BadText = codes "BadText"

-- the fault of a file or a stream that failed so
abbrev pub of_stream : ErrorKind → AppFault
of_stream kinds.OutOfMemory = OutOfMemory
of_stream _ = FileFault

-- the system's reason for a failure of a socket
abbrev pub reason_of : ErrorKind → SocketReason
reason_of kinds.AddrInUse = reasons.AddressInUse
reason_of kinds.AddrNotAvailable = reasons.AddressNotAvailable
reason_of kinds.PermissionDenied = reasons.PermissionDenied
reason_of kinds.HostUnreachable = reasons.HostUnreachable
reason_of kinds.NetworkUnreachable = reasons.NetworkUnreachable
reason_of kinds.NetworkDown = reasons.NetworkDown
reason_of _ = reasons.Other

-- what a printed line says of a reason
abbrev pub text_of_reason : SocketReason → List ℕ
text_of_reason reasons.AddressInUse = codes "the address is in use"
text_of_reason reasons.AddressNotAvailable = codes "the address is not available"
text_of_reason reasons.PermissionDenied = codes "permission is denied"
text_of_reason reasons.HostUnreachable = codes "the host is unreachable"
text_of_reason reasons.NetworkUnreachable = codes "the network is unreachable"
text_of_reason reasons.NetworkDown = codes "the network is down"
text_of_reason reasons.Other = codes "another reason"

-- the fault of a socket that could not be opened, with the system's reason
abbrev pub of_socket : ErrorKind → AppFault
of_socket kinds.OutOfMemory = OutOfMemory
of_socket kind = SocketFault (reason_of kind)

-- why nothing was opened: memory ran out, or a socket failed
abbrev pub IsUnopened : AppFault → Type 0
IsUnopened fault = (fault ≡ OutOfMemory) ⊎ ((reason : SocketReason) × (fault ≡ SocketFault reason))

-- the fault of a message that cannot be written
abbrev pub of_message : PduFault → AppFault
of_message pdu.OutOfMemory = OutOfMemory
of_message _ = BadText

-- a fault of a text or of a stream, and of no socket and no agent
abbrev pub IsOfStream : AppFault → Type 0
IsOfStream OutOfMemory = Unit {0}
IsOfStream FileFault = Unit {0}
IsOfStream other = ⊥
