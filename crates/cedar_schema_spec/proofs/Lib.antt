pub mod DeclaredTests
