-- The names that are defined without any module: iso of ASN.1, and those of the module SNMPv2-SMI
-- (RFC 2578 section 2).
use Rattle.std.specs.Prelude.{ℕ, List, [], ◌∷◌, None, codes}
use Rattle.mon_smi.specs.declared.definition.Definition.{Definition}

-- a name with all of its numbers, and no parent
abbrev pub rooted : List ℕ → List ℕ → Definition
rooted word numbers = record { name = word; parent = None; numbers = numbers }

-- the names that are known without a module (RFC 2578 section 2, RFC 3411 section 5)
abbrev pub built_in : List Definition
built_in =
    rooted (codes "iso") (1 ∷ [])
    ∷ rooted (codes "org") (1 ∷ 3 ∷ [])
    ∷ rooted (codes "dod") (1 ∷ 3 ∷ 6 ∷ [])
    ∷ rooted (codes "internet") (1 ∷ 3 ∷ 6 ∷ 1 ∷ [])
    ∷ rooted (codes "directory") (1 ∷ 3 ∷ 6 ∷ 1 ∷ 1 ∷ [])
    ∷ rooted (codes "mgmt") (1 ∷ 3 ∷ 6 ∷ 1 ∷ 2 ∷ [])
    ∷ rooted (codes "mib-2") (1 ∷ 3 ∷ 6 ∷ 1 ∷ 2 ∷ 1 ∷ [])
    ∷ rooted (codes "transmission") (1 ∷ 3 ∷ 6 ∷ 1 ∷ 2 ∷ 1 ∷ 10 ∷ [])
    ∷ rooted (codes "experimental") (1 ∷ 3 ∷ 6 ∷ 1 ∷ 3 ∷ [])
    ∷ rooted (codes "private") (1 ∷ 3 ∷ 6 ∷ 1 ∷ 4 ∷ [])
    ∷ rooted (codes "enterprises") (1 ∷ 3 ∷ 6 ∷ 1 ∷ 4 ∷ 1 ∷ [])
    ∷ rooted (codes "security") (1 ∷ 3 ∷ 6 ∷ 1 ∷ 5 ∷ [])
    ∷ rooted (codes "snmpV2") (1 ∷ 3 ∷ 6 ∷ 1 ∷ 6 ∷ [])
    ∷ rooted (codes "snmpDomains") (1 ∷ 3 ∷ 6 ∷ 1 ∷ 6 ∷ 1 ∷ [])
    ∷ rooted (codes "snmpProxys") (1 ∷ 3 ∷ 6 ∷ 1 ∷ 6 ∷ 2 ∷ [])
    ∷ rooted (codes "snmpModules") (1 ∷ 3 ∷ 6 ∷ 1 ∷ 6 ∷ 3 ∷ [])
    ∷ rooted (codes "zeroDotZero") (0 ∷ 0 ∷ [])
    ∷ []
