-- The numbers of statuses (RFC 2863 section 6).
use Rattle.std.specs.Prelude.{ℤ, pos}
use Rattle.mon_mib.specs.declared.admin_status.AdminStatus.{AdminStatus}
use Rattle.mon_mib.specs.declared.admin_status.AdminStatus.TheVariants as admin
use Rattle.mon_mib.specs.declared.oper_status.OperStatus.{OperStatus}
use Rattle.mon_mib.specs.declared.oper_status.OperStatus.TheVariants as oper

-- ifAdminStatus
abbrev pub admin_number : AdminStatus → ℤ
admin_number admin.Up = pos 1
admin_number admin.Down = pos 2
admin_number admin.Testing = pos 3

-- ifOperStatus
abbrev pub oper_number : OperStatus → ℤ
oper_number oper.Up = pos 1
oper_number oper.Down = pos 2
oper_number oper.Testing = pos 3
oper_number oper.Unknown = pos 4
oper_number oper.Dormant = pos 5
oper_number oper.NotPresent = pos 6
oper_number oper.LowerLayerDown = pos 7
