pub use Rattle.cert_writing.specs.Cert
pub use Rattle.cert_writing.specs.Views
pub use Rattle.cert_writing.specs.Text
pub mod Reading
pub mod Valid
