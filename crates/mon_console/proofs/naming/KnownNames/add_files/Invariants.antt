use Rattle.std.proofs.Common.{drop, map, string_bytes}
use Rattle.mon_console.proofs.Added.{Leads}
use Rattle.mon_console.proofs.naming.KnownNames.add_files.Given as goal

-- whatever becomes of the files that are left becomes of all of them
abbrev pub invariant-loop-file : goal.invariant-loop-file
invariant-loop-file g l = Leads l.fn.self.names l.self.names (map string_bytes l.files) (map string_bytes (drop l.file-index l.files)) (g.H.Host.log l.fn.host) (g.H.Host.log l.host)
