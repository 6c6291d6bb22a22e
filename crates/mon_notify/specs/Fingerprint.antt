-- The fingerprint of labels: FNV-1a of 64 bits (RFC 9923) over names and values, as Prometheus
-- takes it of labels that are sorted by their names.
use Rattle.std.specs.Prelude.{ℕ, ◌*◌, ◌%◌, ◌^◌, List, [], ◌∷◌, bit_xor}

-- a hash after one more octet
abbrev pub octet_hashed : ℕ → ℕ → ℕ
octet_hashed hash octet = (bit_xor hash octet * 1_099_511_628_211) % 2 ^ 64

-- a hash after more octets
abbrev pub hashed : ℕ → List ℕ → ℕ
hashed hash [] = hash
hashed hash (octet ∷ octets) = hashed (octet_hashed hash octet) octets

-- a hash after a label: its name and its value, each with an octet of ones behind it
abbrev pub label_hashed : ℕ → List ℕ × List ℕ → ℕ
label_hashed hash label =
    octet_hashed (hashed (octet_hashed (hashed hash label.0) 255) label.1) 255

-- a hash after more labels
abbrev pub labels_hashed : ℕ → List (List ℕ × List ℕ) → ℕ
labels_hashed hash [] = hash
labels_hashed hash (label ∷ labels) = labels_hashed (label_hashed hash label) labels

-- the hash of all labels
abbrev pub fingerprint : List (List ℕ × List ℕ) → ℕ
fingerprint labels = labels_hashed 14_695_981_039_346_656_037 labels
