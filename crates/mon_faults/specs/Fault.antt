-- The faults of commands.
use Rattle.std.specs.Prelude.{ℕ, Bool, true, false, not, ◌==◌, codes}
use Rattle.mon_app.specs.AppFault as app
use Rattle.mon_app.specs.declared.fault.AppFault.{AppFault}
use Rattle.mon_app.specs.declared.fault.AppFault.TheVariants.{BadText, SocketFault}
use Rattle.mon_app.specs.declared.reason.SocketReason.{SocketReason}
use Rattle.mon_app.specs.declared.reason.SocketReason.TheVariants.{AddressInUse, PermissionDenied}
use Rattle.mon_disk.specs.Fault as disk
use Rattle.mon_disk.specs.declared.fault.KeeperFault.{KeeperFault}
use Rattle.mon_disk.specs.declared.fault.KeeperFault.TheVariants.{Damaged, NoMoreGenerations}
use Rattle.mon_disk.specs.declared.fault.KeeperFault.TheVariants.{TooLarge}
use Rattle.mon_mib.specs.DeviceFault as device
use Rattle.mon_saved.specs.Fault as saved
use Rattle.mon_settings.specs.SettingsFault as settings
use Rattle.mon_smi.specs.Faults.{number_of_names, name_of_names}
use Rattle.mon_smi.specs.TextFaults.{number_of_text, name_of_text}
use Rattle.mon_station.specs.declared.fault.StationFault.{StationFault}
use Rattle.mon_station.specs.declared.fault.StationFault.TheVariants as of_station
use Rattle.mon_station.specs.Fault as station
use Rattle.mon_faults.specs.declared.fault.Fault.{Fault}
use Rattle.mon_faults.specs.declared.fault.Fault.TheVariants.{App, Names, Text, Settings, Device}
use Rattle.mon_faults.specs.declared.fault.Fault.TheVariants.{Keeper, Image, Station}
use Rattle.mon_faults.specs.declared.fault.Fault.TheVariants.{SettingsChanged, Other}

-- the innermost of nested faults: the crate whose it is, and its number and name there
abbrev pub innermost_of : Fault → station.Told
innermost_of (App f) = record {
  part = codes "mon_app";
  number = app.number_of f;
  name = app.name_of
      f;
}
innermost_of (Names f) = record {
  part = codes "mon_smi";
  number = number_of_names f;
  name =
      name_of_names f;
}
innermost_of (Text f) = record {
  part = codes "mon_smi";
  number = number_of_text f;
  name =
      name_of_text f;
}
innermost_of (Settings f) = record {
  part = codes "mon_settings";
  number = settings.number_of f;
  name = settings.name_of f;
}
innermost_of (Device f) = record {
  part = codes "mon_mib";
  number = device.number_of f;
  name =
      device.name_of f;
}
innermost_of (Keeper f) = record {
  part = codes "mon_disk";
  number = disk.number_of f;
  name =
      disk.name_of f;
}
innermost_of (Image f) = record {
  part = codes "mon_saved";
  number = saved.number_of f;
  name =
      saved.name_of f;
}
innermost_of (Station f) = station.innermost_of f
innermost_of SettingsChanged =
    record { part = codes "mon_station_commands"; number = 2; name = codes "SettingsChanged" }
innermost_of (Other i) = record { part = i.part.now; number = i.number; name = i.name.now }

-- a station's fault as a command's: a fault of its file is the file's own
abbrev pub station_fault : StationFault → Fault
station_fault (of_station.Keeper f) = Keeper f
station_fault (of_station.Image f) = Image f
station_fault f = Station f

-- ---- what stays until somebody changes something
-- a fault other than that memory was refused, which has number 1 in each crate
abbrev pub is_no_memory : ℕ → Bool
is_no_memory number = not (number == 1)

-- another program has the address, or the system does not permit the port
abbrev pub holds_out : SocketReason → Bool
holds_out AddressInUse = true
holds_out PermissionDenied = true
holds_out _ = false

-- arguments that are not read, and an address that cannot be had
abbrev pub app_lasts : AppFault → Bool
app_lasts BadText = true
app_lasts (SocketFault reason) = holds_out reason
app_lasts _ = false

-- a file that is damaged or full
abbrev pub keeper_lasts : KeeperFault → Bool
keeper_lasts Damaged = true
keeper_lasts NoMoreGenerations = true
keeper_lasts TooLarge = true
keeper_lasts _ = false

-- the station's file has no incarnation left
abbrev pub station_lasts : StationFault → Bool
station_lasts of_station.NoMoreIncarnations = true
station_lasts _ = false

-- A fault that stays until somebody changes something: the arguments, the settings, a module, the
-- station's file, or what has its address. What may pass by itself does not last.
abbrev pub lasts : Fault → Bool
lasts (App f) = app_lasts f
lasts (Names f) = is_no_memory (number_of_names f)
lasts (Text f) = is_no_memory (number_of_text f)
lasts (Settings f) = is_no_memory (settings.number_of f)
lasts (Device f) = false
lasts (Keeper f) = keeper_lasts f
lasts (Image f) = is_no_memory (saved.number_of f)
lasts (Station f) = station_lasts f
lasts SettingsChanged = false
lasts (Other i) = is_no_memory i.number
