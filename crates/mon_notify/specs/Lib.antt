pub mod Times
pub mod Fingerprint
pub mod Labels
pub mod Webhook
pub mod Texts
pub mod Mail
pub mod History
