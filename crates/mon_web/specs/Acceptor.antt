-- Where clients of HTTP come in.

-- the socket was bound as was asked for, and is then watched
abbrev pub IsOpenAt : {L : Type 0} → (L → Type 0) → (L → L → Type 0) → L → Type 0
IsOpenAt {L} bound watched socket = (before : L) × bound before × watched before socket
