pub mod Migrated
