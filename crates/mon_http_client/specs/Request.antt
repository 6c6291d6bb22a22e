-- The text of a request (RFC 9112, section 3).
use Rattle.std.specs.Prelude.{ℕ, List, ◌++◌, codes, decimal, length}

-- method, target in origin form, and version (RFC 9112, section 3)
unfoldable pub request_line : (method path : List ℕ) → List ℕ
request_line method path = method ++ codes " " ++ path ++ codes " HTTP/1.1\r\n"

-- a field line (RFC 9112, section 5)
unfoldable pub field_text : (name value : List ℕ) → List ℕ
field_text name value = name ++ codes ": " ++ value ++ codes "\r\n"

-- The request line, and the fields that each request has: its host (RFC 9110, section 7.2), what
-- sends it (section 10.1.5), and that the connection closes after the response (RFC 9112, section
-- 9.6).
unfoldable pub head_text : (method host path : List ℕ) → List ℕ
head_text method host path =
    request_line method path ++ field_text (codes "Host") host
    ++ field_text (codes "User-Agent") (codes "snmpmon") ++ field_text (codes "Connection")
    (codes "close")

-- a GET of a path (RFC 9110, section 9.3.1)
unfoldable pub get_text : (host path : List ℕ) → List ℕ
get_text host path = head_text (codes "GET") host path ++ codes "\r\n"

-- the type of a body of JSON (RFC 9110, section 8.3; RFC 8259, section 11)
unfoldable pub type_field : List ℕ
type_field = field_text (codes "Content-Type") (codes "application/json")

-- the number of octets of the body (RFC 9110, section 8.6)
unfoldable pub length_field : ℕ → List ℕ
length_field len = field_text (codes "Content-Length") (decimal len)

-- a POST of a body of JSON to a path (RFC 9110, section 9.3.3)
unfoldable pub post_text : (host path body : List ℕ) → List ℕ
post_text host path body =
    head_text (codes "POST") host path ++ type_field ++ length_field (length body) ++ codes "\r\n"
    ++ body
